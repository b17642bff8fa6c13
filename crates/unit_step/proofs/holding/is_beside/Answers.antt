-- A search among numbers in order finds each that is there.
use Rattle.std.proofs.Common.{◌≡◌, get_or, inl, inr, refl, ◌∙◌, arith}
use Rattle.std.specs.Prelude.{Contains}
use Rattle.std.proofs.lemmas.Bool.{cases_lt}
use Rattle.std.proofs.lemmas.List.{get_or_default}
use Rattle.std.proofs.lemmas.List.Sorted.{searched}
use Rattle.unit_step.proofs.holding.is_beside.Goals as goal

pub returns-in-Ok : goal.returns-in-Ok
returns-in-Ok c =
    let these = c.args.these.now in
    let k = c.args.k in
    let found = searched these k c.binary_search.result c.binary_search.ensures.position (λ i j before inside. c.requires i j 0 before inside) in
    let (inside, here) = rw c.in-Ok.is at found in (
      λ is. absurd cc,
      λ (none : ¬ Contains these k). absurd (none (c.in-Ok._place, inside, get_or_default these c.in-Ok._place k 0 inside ∙ here)),
    )

pub returns-in-Err : goal.returns-in-Err
returns-in-Err c =
    let these = c.args.these.now in
    let k = c.args.k in
    let found = searched these k c.binary_search.result c.binary_search.ensures.position (λ i j before inside. c.requires i j 0 before inside) in
    let (within, lower, higher) = rw c.in-Err.is at found in (
      λ is there.
          let i = there.0 in
          let here : get_or these i 0 ≡ k = get_or_default these i 0 k there.1 ∙ there.2 in
          elim (cases_lt i c.in-Err._place) [
            | inl before ↦ absurd (omega (arith, lower i before, here))
            | inr past ↦ absurd (omega (arith, higher i past there.1, here))
          ],
      λ none. refl,
    )
