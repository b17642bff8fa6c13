-- One slot more is listed if its part has code.
use Rattle.std.proofs.Common.{◌≡◌, inl, inr, Some, get_or, length, refl, sym, ap, subst, ◌∙◌, arith}
use Rattle.std.specs.Prelude.{◌≢◌, Contains, None, slice_get}
use Rattle.std.proofs.lemmas.Bool.{cases_eq}
use Rattle.std.proofs.lemmas.Option.{slice_get_read, slice_get-get_or, slice_get_within}
use Rattle.machine_parts.specs.declared.part.MachinePart.{MachinePart}
use Rattle.unit_step.proofs.LongLemmas.{added, added_stays, added_itself, is_there, there_is}
use Rattle.unit_step.proofs.long.coded_of.Goals as goal

pub loop-place-preserved : goal.loop-place-preserved
loop-place-preserved c =
    let slots = c.args.slots.now in
    let parts = c.args.parts.now in
    let place = c.loop-place.place in
    let part = c.index-parts-place.result in
    let slot = get_or slots place 0 in
    let at = slice_get_read parts (length parts) place part refl c.loop-place-test.true c.index-parts-place.is in
    let slot_at = slice_get-get_or slots place 0 (omega (arith, c.loop-place-test.true, c.requires)) in
    let old = c.loop-place.coded.items in
    let new = c.add_if.new.list.items in
    let has = c.is_some.result in
    let grown = c.in_ok-add_if.ensures in
    record {
      only = λ k there.
          elim (added has slot old new k grown there) [
            | inl before ↦ c.loop-place.invariant.only k before
            | inr (is, same) ↦ record {
              i = place;
              slot = slot_at ∙ ap Some same;
              part = part;
              there = at;
              coded = is_there part.code (sym c.is_some.ensures ∙ is);
            }
          ];
      all = λ k i other before slot_is other_at coded.
          elim (cases_eq i place) [
            | inl same ↦
                let both : Some other ≡ Some part = sym other_at ∙ (ap (slice_get parts) same ∙ at) in
                let is : other ≡ part = cc in
                let slots_both : Some slot ≡ Some k = sym slot_at ∙ (ap (slice_get slots) (sym same) ∙ slot_is) in
                let slot_same : slot ≡ k = cc in
                let has_code : part.code ≢ None = subst (λ (one : MachinePart). one.code ≢ None) is coded in
                subst (λ n. Contains new n) slot_same (added_itself has slot old new grown (c.is_some.ensures ∙ there_is part.code has_code))
            | inr differs ↦
                added_stays has slot old new k grown (c.loop-place.invariant.all k i other (omega (arith, before, differs)) slot_is other_at coded)
          ];
    }

pub returns : goal.returns
returns c = λ k. (
  c.loop-place.invariant.only k,
  λ has.
      c.loop-place.invariant.all k has.i has.part (omega (arith, slice_get_within c.args.parts.now has.i has.part has.there, c.loop-place-test.false)) has.slot
      has.there has.coded,
)
