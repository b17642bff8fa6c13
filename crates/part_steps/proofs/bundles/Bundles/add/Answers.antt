-- There is room for one part more, and the other bundles are as they were.
use Rattle.std.proofs.Common.{◌≡◌, List, ◌<◌, ◌≤◌, length, get_or, inr, refl, sym, ap, subst, ◌∙◌, arith}
use Rattle.std.specs.Prelude.{slice_set, vec_capacity}
use Rattle.part_steps.specs.declared.bundles.Bundle.{Bundle}
use Rattle.part_steps.specs.declared.bundles.TheConstants.{COLUMNS}
use Rattle.part_steps.specs.Waiting.{Slot, slots_of, slot_for, HasRoom, with_seat}
use Rattle.part_steps.proofs.BundleLemmas.{AreBundles-set, slots_with, room_in_bundle}
use Rattle.part_steps.proofs.bundles.Bundles.add.Goals.{After-index_mut-bundle}
use Rattle.part_steps.proofs.bundles.Bundles.add.Goals as goal

-- the bundle for the part's code is one of the bundles
within : (c : After-index_mut-bundle) → slot_for c.args.seat.code < length c.self.inside.slots.items
within c = omega (arith, c.slot_for-place.ensures.slot, c.slot_for-place.ensures.inside, c.self.invariant.counted)

here : (c : After-index_mut-bundle) → get_or c.self.inside.slots.items (slot_for c.args.seat.code) c.index_mut-bundle.result.now ≡ c.index_mut-bundle.result.now
here c =
    let bundle = c.index_mut-bundle.result.now in
    subst (λ n. get_or c.self.inside.slots.items n bundle ≡ bundle) c.slot_for-place.ensures.slot (sym c.index_mut-bundle.ensures.value)

-- with room for so many parts, and fewer in it
room : (c : After-index_mut-bundle) → COLUMNS ≤ vec_capacity c.index_mut-bundle.result.now.starts
room c =
    subst (λ (one : Bundle). COLUMNS ≤ vec_capacity one.starts) (here c)
    (c.self.invariant.room (slot_for c.args.seat.code) c.index_mut-bundle.result.now (within c))

few : (c : After-index_mut-bundle) → length c.index_mut-bundle.result.now.starts.items < COLUMNS
few c =
    room_in_bundle c.self.inside.slots.items c.args.seat.code c.index_mut-bundle.result.now (within c) (here c)
    (subst (λ (slots : List Slot). HasRoom slots c.args.seat.code) (sym c.self.view_is) c.requires)

pub push_reserved-requires : goal.push_reserved-requires
push_reserved-requires c =
    let at = (goal.at.push_reserved-requires c).After-index_mut-bundle in
    omega (arith, room at, few at)

pub invariant_of-self : goal.invariant_of-self
invariant_of-self c =
    let at = (goal.at.invariant_of-self c).After-index_mut-bundle in
    let new : Bundle = record { code = c.args.seat.code; starts = c.push_reserved.new.self } in
    AreBundles-set c.self.inside.slots.items c.self.inside.high c.max-self-inside.result c.slot_for-place.result new
    (omega (arith, c.slot_for-place.ensures.inside, c.self.invariant.counted))
    c.self.invariant (omega (arith, c.max-self-inside.ensures))
    (omega (arith, c.max-self-inside.ensures, c.slot_for-place.ensures.inside, c.self.invariant.inside))
    (inr (omega (arith, c.max-self-inside.ensures))) (omega (arith, few at, c.push_reserved.ensures.len))
    (omega (arith, room at, c.push_reserved.ensures.capacity))

pub returns : goal.returns
returns c =
    let at = (goal.at.returns c).After-index_mut-bundle in
    let bundles = c.self.inside.slots.items in
    let seat = c.args.seat in
    let new : Bundle = record { code = seat.code; starts = c.push_reserved.new.self } in
    ap (λ n. slots_of (slice_set bundles n new)) c.slot_for-place.ensures.slot
    ∙ (slots_with bundles seat c.index_mut-bundle.result.now new (within at) (here at) refl c.push_reserved.ensures.items
    ∙ ap (λ (slots : List Slot). with_seat slots seat) c.self.view_is)
