-- One part more is marked.
use Rattle.std.proofs.Common.{◌≡◌, ◌+◌, ◌≤◌, [], ◌∷◌, ◌++◌, true, length, ap, ◌∙◌, arith, rules}
use Rattle.std.specs.Prelude.{vec_capacity}
use Rattle.part_lists.proofs.AgendaLemmas.{listed_few, ListsMarked-added}
use Rattle.part_lists.proofs.agenda.Agenda.add.Goals as goal

pub push_reserved-requires : goal.push_reserved-requires
push_reserved-requires c =
    let i = c.self.inside in
    omega (
      arith,
      listed_few i.marks.items i.work.items _ c.self.invariant,
      c.in_ok-reserve-2.ensures.ok,
      c.reserve-2.ensures.len,
      c.len.ensures,
      c.len-2.ensures,
      c.reserve.ensures.len,
      i.marks.ok.0,
      i.work.ok.0,
    )

pub invariant_of-self-2 : goal.invariant_of-self-2
invariant_of-self-2 c =
    let i = c.self.inside in
    let marks = c.push_reserved-2.ensures.items ∙ ap (λ xs. xs ++ true ∷ []) c.reserve.ensures.items in
    let count : c.len-3.result ≡ length i.marks.items = search rules in
    let work : c.push_reserved.new.self.items ≡ i.work.items ++ length i.marks.items ∷ [] =
    c.push_reserved.ensures.items ∙ ap (λ xs. xs ++ c.len-3.result ∷ []) c.reserve-2.ensures.items ∙ ap (λ n. i.work.items ++ n ∷ []) count in
    let room : length i.marks.items + 1 ≤ vec_capacity c.push_reserved.new.self =
    omega (
      arith,
      listed_few i.marks.items i.work.items _ c.self.invariant,
      c.in_ok-reserve-2.ensures.ok,
      c.reserve-2.ensures.len,
      c.len.ensures,
      c.len-2.ensures,
      c.reserve.ensures.len,
      c.push_reserved.ensures.capacity,
      i.marks.ok.0,
      i.work.ok.0,
    ) in
    rw (marks, work) (ListsMarked-added i.marks.items i.work.items _ _ room c.self.invariant)
