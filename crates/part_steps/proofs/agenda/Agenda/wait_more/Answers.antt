-- One part more waits.
use Rattle.std.proofs.Common.{◌≡◌, ◌+◌, ◌≤◌, ◌++◌, ◌∷◌, [], true, length, ap, ◌∙◌, arith, rules}
use Rattle.std.specs.Prelude.{vec_capacity}
use Rattle.machine_parts.proofs.MarkLemmas.{IsAgenda-waits}
use Rattle.part_steps.proofs.agenda.Agenda.wait_more.Goals as goal

pub invariant_of-self-2 : goal.invariant_of-self-2
invariant_of-self-2 c =
    let i = c.self.inside in
    let marks = c.push_reserved.ensures.items ∙ ap (λ xs. xs ++ true ∷ []) c.reserve.ensures.items in
    let waits = c.push_reserved-2.ensures.items ∙ ap (λ xs. xs ++ true ∷ []) c.reserve-2.ensures.items in
    let room : length i.marks.items + 1 ≤ vec_capacity c.reserve-3.new.self =
    omega (arith, c.in_ok-reserve-3.ensures.ok, c.reserve-3.ensures.len, c.len.ensures, c.len-2.ensures, c.reserve.ensures.len, i.marks.ok.0) in
    let waiters : c.push.new.self.items ≡ i.waiters.items ++ length i.marks.items ∷ [] =
    c.in_ok-push.ensures.items ∙ ap (λ n. i.waiters.items ++ n ∷ []) (search rules) in
    rw (marks, waits, c.reserve-3.ensures.items, waiters)
    (IsAgenda-waits i.marks.items i.waits.items i.work.items i.waiters.items i.stale _ _ room c.self.invariant)
