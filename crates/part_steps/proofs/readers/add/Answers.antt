-- The part stands last already, or comes behind the others.
use Rattle.std.proofs.Common.{◌≡◌, ◌<◌, ◌-◌, List, ℕ, length, true, false, sym, subst, ◌∙◌, rules}
use Rattle.std.specs.Prelude.{slice_index}
use Rattle.std.specs.Result.{is_ok}
use Rattle.machine_parts.proofs.MakingLemmas.{at_on_ok}
use Rattle.part_steps.proofs.ReadersLemmas.{Adds-pushed, Adds-there, isnt_there}
use Rattle.part_steps.proofs.readers.add.Goals as goal

pub returns-then-is_last-clause-ok : goal.returns-then-is_last-clause-ok
returns-then-is_last-clause-ok c =
    let xs = c.args.list.now.items in
    let k = c.args.k in
    let yes : (0 < length c.as_slice.result.now) × (slice_index c.as_slice.result.now (length c.as_slice.result.now - 1) ≡ k) =
    c.is_last.ensures.0 c.if-is_last.true in
    let is : (0 < length xs) × (slice_index xs (length xs - 1) ≡ k) =
    subst (λ (ys : List ℕ). (0 < length ys) × (slice_index ys (length ys - 1) ≡ k)) c.as_slice.ensures yes in
    Adds-there k xs c.requires.once is.0 is.1

pub returns-clause-ok : goal.returns-clause-ok
returns-clause-ok c =
    let xs = c.args.list.now.items in
    let k = c.args.k in
    let ok : is_ok c.push.result ≡ true = search rules in
    let other : ¬ ((0 < length xs) × (slice_index xs (length xs - 1) ≡ k)) = λ is.
    let yes : c.is_last.result ≡ true =
    c.is_last.ensures.1 (subst (λ (ys : List ℕ). (0 < length ys) × (slice_index ys (length ys - 1) ≡ k)) (sym c.as_slice.ensures) is) in
    let both : false ≡ true = sym c.if-is_last.false ∙ yes in
    cc in
    Adds-pushed k xs c.push.new.self.items c.requires.once (isnt_there k xs c.requires.last other)
    (at_on_ok _ c.push.result c.push.ensures.ok ok)
