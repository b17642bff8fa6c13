-- The slots of bundles: how they are read, and that they stay as they must if one of them is set.
use Rattle.std.proofs.Common.{◌≡◌, ℕ, zero, suc, ◌<◌, ◌≤◌, inl, inr, ◌⊎◌, List, [], ◌∷◌, ◌++◌, length, get_or, All, Some, sym, ap, subst, ◌∙◌, arith}
use Rattle.std.specs.Prelude.{option_map, slice_get, slice_set, vec_capacity}
use Rattle.std.proofs.lemmas.Bool.{cases_eq}
use Rattle.std.proofs.lemmas.List.{length-set, length-map, map-set}
use Rattle.std.proofs.lemmas.List.Elements.{All-head, All-tail, All-set}
use Rattle.std.proofs.lemmas.Option.{same_Some, none-some, slice_get-map, slice_get-get_or}
use Rattle.part_steps.specs.declared.dense.Seat.{Seat}
use Rattle.part_steps.specs.declared.bundles.Bundle.{Bundle}
use Rattle.part_steps.specs.declared.bundles.TheConstants.{SLOTS, COLUMNS}
use Rattle.part_steps.specs.Waiting.{Slot, slots_of, slot_for, IsEmptyFrom, HasRoom, starts_in, code_in, with_seat, cleared_at, AreBundles}
use Rattle.part_steps.proofs.PuttingLemmas.{set_here, set_other}
use Rattle.part_steps.proofs.WaitingLemmas.{starts_there, code_there}

-- the slot that a bundle is
pub slot_of : Bundle → Slot
slot_of bundle = record { code = bundle.code; starts = bundle.starts.items }

-- the slot at a place is the bundle there
pub slot_there : (bundles : List Bundle) (place : ℕ) (bundle : Bundle) → place < length bundles → get_or bundles place bundle ≡ bundle →
    slice_get (slots_of bundles) place ≡ Some (slot_of bundle)
unfolding slot_of
slot_there bundles place bundle inside here =
    slice_get-map slot_of bundles place
    ∙ ap (option_map slot_of) (slice_get-get_or bundles place bundle inside ∙ ap Some here)

pub starts_of : (bundles : List Bundle) (place : ℕ) (bundle : Bundle) → place < length bundles → get_or bundles place bundle ≡ bundle →
    starts_in (slots_of bundles) place ≡ bundle.starts.items
unfolding slot_of
starts_of bundles place bundle inside here = starts_there (slots_of bundles) place (slot_of bundle) (slot_there bundles place bundle inside here)

pub code_of : (bundles : List Bundle) (place : ℕ) (bundle : Bundle) → place < length bundles → get_or bundles place bundle ≡ bundle →
    code_in (slots_of bundles) place ≡ bundle.code
unfolding slot_of
code_of bundles place bundle inside here = code_there (slots_of bundles) place (slot_of bundle) (slot_there bundles place bundle inside here)

-- a bundle is set
pub slots_set : (bundles : List Bundle) (place : ℕ) (bundle : Bundle) →
    slots_of (slice_set bundles place bundle) ≡ slice_set (slots_of bundles) place (slot_of bundle)
unfolding slot_of
slots_set bundles place bundle = map-set slot_of bundles place bundle

-- bundles stay as they must if one of them is set, that is empty or before the first that is empty from there on
pub AreBundles-set : (bundles : List Bundle) (high top place : ℕ) (bundle : Bundle) → place < length bundles → AreBundles bundles high →
    high ≤ top → top ≤ SLOTS → (bundle.starts.items ≡ []) ⊎ (place < top) → length bundle.starts.items ≤ COLUMNS →
    COLUMNS ≤ vec_capacity bundle.starts →
    AreBundles (slice_set bundles place bundle) top
unfolding slot_of
AreBundles-set bundles high top place bundle within are grows inside free few room = record {
  counted = length-set bundles place bundle ∙ are.counted;
  few = All-set (λ (one : Bundle). length one.starts.items ≤ COLUMNS) bundles place bundle few are.few;
  room = All-set (λ (one : Bundle). COLUMNS ≤ vec_capacity one.starts) bundles place bundle room are.room;
  inside = inside;
  empty = λ other slot low there.
      let here : slice_get (slice_set (slots_of bundles) place (slot_of bundle)) other ≡ Some slot =
      ap (λ (slots : List Slot). slice_get slots other) (sym (slots_set bundles place bundle)) ∙ there in
      elim (cases_eq other place) [
        | inl same ↦
            let set : slice_get (slice_set (slots_of bundles) place (slot_of bundle)) other ≡ Some (slot_of bundle) =
            ap (slice_get (slice_set (slots_of bundles) place (slot_of bundle))) same
            ∙ set_here (slots_of bundles) place (slot_of bundle) (subst (λ n. place < n) (sym (length-map bundles slot_of)) within) in
            let is : slot_of bundle ≡ slot = same_Some (slot_of bundle) slot (sym set ∙ here) in
            elim free [
              | inl none ↦ sym (ap (λ (one : Slot). one.starts) is) ∙ none
              | inr less ↦ absurd (omega (arith, low, less, same))
            ]
        | inr differs ↦
            are.empty other slot (omega (arith, grows, low)) (sym (set_other (slots_of bundles) place other (slot_of bundle) differs) ∙ here)
      ];
}

-- one part more waits in a bundle
pub slots_with : (bundles : List Bundle) (seat : Seat) (old new : Bundle) → slot_for seat.code < length bundles →
    get_or bundles (slot_for seat.code) old ≡ old → new.code ≡ seat.code → new.starts.items ≡ old.starts.items ++ seat.at ∷ [] →
    slots_of (slice_set bundles (slot_for seat.code) new) ≡ with_seat (slots_of bundles) seat
unfolding slot_of
slots_with bundles seat old new inside here code starts =
    let place = slot_for seat.code in
    let before = starts_of bundles place old inside here in
    let is : slot_of new ≡ record { code = seat.code; starts = starts_in (slots_of bundles) place ++ seat.at ∷ [] } =
    λ i. record { code = code i; starts = (starts ∙ ap (λ (xs : List ℕ). xs ++ seat.at ∷ []) (sym before)) i } in
    slots_set bundles place new ∙ ap (slice_set (slots_of bundles) place) is

-- none waits in a bundle any more
pub slots_cleared : (bundles : List Bundle) (place : ℕ) (old new : Bundle) → place < length bundles → get_or bundles place old ≡ old →
    new.code ≡ old.code → new.starts.items ≡ [] → slots_of (slice_set bundles place new) ≡ cleared_at (slots_of bundles) place
unfolding slot_of
slots_cleared bundles place old new inside here code starts =
    let before = code_of bundles place old inside here in
    let is : slot_of new ≡ record { code = code_in (slots_of bundles) place; starts = [] } =
    λ i. record { code = (code ∙ sym before) i; starts = starts i } in
    slots_set bundles place new ∙ ap (slice_set (slots_of bundles) place) is

-- where no bundle has a part, none waits
pub IsEmptyFrom-empty : (bundles : List Bundle) → All (λ (bundle : Bundle). bundle.starts.items ≡ []) bundles → IsEmptyFrom 0 (slots_of bundles)
unfolding slot_of
IsEmptyFrom-empty [] empty place slot low there = absurd (none-some slot there)
IsEmptyFrom-empty (bundle ∷ bundles) empty zero slot low there =
    sym (ap (λ (one : Slot). one.starts) (same_Some (slot_of bundle) slot there))
    ∙ All-head (λ (one : Bundle). one.starts.items ≡ []) bundle bundles empty
IsEmptyFrom-empty (bundle ∷ bundles) empty (suc place) slot low there =
    IsEmptyFrom-empty bundles (All-tail (λ (one : Bundle). one.starts.items ≡ []) bundle bundles empty) place slot (omega arith) there

-- bundles as they start
pub AreBundles-new : (bundles : List Bundle) → length bundles ≡ SLOTS → All (λ (bundle : Bundle). bundle.starts.items ≡ []) bundles →
    All (λ (bundle : Bundle). COLUMNS ≤ vec_capacity bundle.starts) bundles → AreBundles bundles 0
AreBundles-new bundles counted empty room = record {
  counted = counted;
  few = λ k d inside. omega (arith, ap (λ (xs : List ℕ). length xs) (empty k d inside));
  room = room;
  inside = omega arith;
  empty = IsEmptyFrom-empty bundles empty;
}

-- a part that has room in its slot has room in its bundle
pub room_in_bundle : (bundles : List Bundle) (code : ℕ) (bundle : Bundle) → slot_for code < length bundles → get_or bundles (slot_for code) bundle ≡ bundle →
    HasRoom (slots_of bundles) code → length bundle.starts.items < COLUMNS
unfolding slot_of
room_in_bundle bundles code bundle inside here room =
    elim (room (slot_of bundle) (slot_there bundles (slot_for code) bundle inside here)) [
      | inl none ↦ omega (arith, ap (λ (xs : List ℕ). length xs) none)
      | inr (same, few) ↦ few
    ]

-- a bundle that is empty, or has this code and few parts, has room
pub HasRoom-from : (bundles : List Bundle) (code : ℕ) (bundle : Bundle) → slot_for code < length bundles →
    get_or bundles (slot_for code) bundle ≡ bundle →
    (bundle.starts.items ≡ []) ⊎ ((bundle.code ≡ code) × (length bundle.starts.items < COLUMNS)) → HasRoom (slots_of bundles) code
unfolding slot_of
HasRoom-from bundles code bundle inside here either slot there =
    let is : slot_of bundle ≡ slot = same_Some (slot_of bundle) slot (sym (slot_there bundles (slot_for code) bundle inside here) ∙ there) in
    subst (λ (one : Slot). (one.starts ≡ []) ⊎ ((one.code ≡ code) × (length one.starts < COLUMNS))) is either
