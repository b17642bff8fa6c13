-- Parts that wait to be run together: slots, each with the place of a code and where the maps of parts with this code begin.
use Rattle.std.specs.Prelude.{◌≡◌, ℕ, ◌*◌, ◌%◌, ◌<◌, ◌≤◌, ◌⊎◌, List, [], ◌∷◌, ◌++◌, length, map, All, Contains, Some, option_map, unwrap_or, slice_get, slice_set, vec_capacity}
use Rattle.std.specs.List.{sum_by}
use Rattle.part_steps.specs.declared.dense.Seat.{Seat}
use Rattle.part_steps.specs.declared.bundles.Bundle.{Bundle}
use Rattle.part_steps.specs.declared.bundles.TheConstants.{SLOTS, COLUMNS}

-- the place of a code, and where the maps of parts that wait with it begin
pub record Slot : Type 0 where
  pub code : ℕ
  pub starts : List ℕ

abbrev pub slots_of : List Bundle → List Slot
slots_of bundles = map (λ bundle. record { code = bundle.code; starts = bundle.starts.items }) bundles

-- the slot in which parts with this code wait
abbrev pub slot_for : ℕ → ℕ
slot_for code = code % SLOTS

-- a part with this seat waits
pub record Waits (slots : List Slot) (seat : Seat) : Type 0 where
  pub place : ℕ
  pub slot : Slot
  pub there : slice_get slots place ≡ Some slot
  pub code : slot.code ≡ seat.code
  pub start : Contains slot.starts seat.at

-- no part waits in this slot, or in one behind it
abbrev pub IsEmptyFrom : ℕ → List Slot → Type 0
IsEmptyFrom high slots = (place : ℕ) (slot : Slot) → high ≤ place → slice_get slots place ≡ Some slot → slot.starts ≡ []

-- no part waits in the slots before this one
abbrev pub IsEmptyBelow : ℕ → List Slot → Type 0
IsEmptyBelow high slots = (place : ℕ) (slot : Slot) → place < high → slice_get slots place ≡ Some slot → slot.starts ≡ []

-- a part with this code can wait: in its slot none does, or parts with the same code, and not too many
abbrev pub HasRoom : List Slot → ℕ → Type 0
HasRoom slots code =
    (slot : Slot) → slice_get slots (slot_for code) ≡ Some slot → (slot.starts ≡ []) ⊎ ((slot.code ≡ code) × (length slot.starts < COLUMNS))

-- where the maps begin that wait in a slot, and their code
abbrev pub starts_in : List Slot → ℕ → List ℕ
starts_in slots place = unwrap_or (option_map (λ (slot : Slot). slot.starts) (slice_get slots place)) []

abbrev pub code_in : List Slot → ℕ → ℕ
code_in slots place = unwrap_or (option_map (λ (slot : Slot). slot.code) (slice_get slots place)) 0

-- one part more waits
abbrev pub with_seat : List Slot → Seat → List Slot
with_seat slots seat =
    slice_set slots (slot_for seat.code) (record { code = seat.code; starts = starts_in slots (slot_for seat.code) ++ seat.at ∷ [] })

-- none waits in this slot
abbrev pub cleared_at : List Slot → ℕ → List Slot
cleared_at slots place = slice_set slots place (record { code = code_in slots place; starts = [] })

-- the sum over all parts that wait, by their codes
abbrev pub waiting_sum : (ℕ → ℕ) → List Slot → ℕ
waiting_sum f slots = sum_by (λ slot. length slot.starts * f slot.code) slots

-- in each slot there is room for as many parts as a word has bits, and none waits in this slot or in one behind it
pub record AreBundles (bundles : List Bundle) (high : ℕ) : Type 0 where
  pub counted : length bundles ≡ SLOTS
  pub few : All (λ (bundle : Bundle). length bundle.starts.items ≤ COLUMNS) bundles
  pub room : All (λ (bundle : Bundle). COLUMNS ≤ vec_capacity bundle.starts) bundles
  pub inside : high ≤ SLOTS
  pub empty : IsEmptyFrom high (slots_of bundles)
