-- How stale parts get their code: where the parts of groups wait, and what each becomes.
use Rattle.std.specs.Prelude.{◌≡◌, ◌≢◌, ℕ, ◌⊎◌, Bool, false, List, [], length, map, filter, Contains, Option, Some, None, slice_get, slice_index, slice_index_or}
use Rattle.std.specs.List.{AllZip}
use Rattle.group_text.specs.Texts.{GroupTextData}
use Rattle.vicinity.specs.Wides.{WideData}
use Rattle.wide_groups.specs.Staying.{HoldsNode}
use Rattle.switch_paths.specs.Graphs.{GraphData}
use Rattle.group_meaning.specs.Groups.{Group}
use Rattle.circuit_texts.specs.Sizes.{fault_in}
use Rattle.machine_parts.specs.declared.part.MachinePart.{MachinePart}
use Rattle.machine_parts.specs.Parts.{Stands}
use Rattle.machine_parts.specs.Marking.{AreOnce}
use Rattle.machine_laws.specs.Fitting.{IsPartOf}

-- the part is that of the group, and reads nothing if it has no code
pub record IsFresh (g : GraphData) (group : Group) (part : MachinePart) : Type 0 where
  pub is_part : IsPartOf g group part
  pub quiet : part.code ≡ None → part.reads.items ≡ []

-- the part has no code any more, and reads nothing
pub record IsLoosened (old new : MachinePart) : Type 0 where
  pub code : new.code ≡ None
  pub map : new.map ≡ old.map
  pub members : new.members ≡ old.members
  pub reads : new.reads.items ≡ []

-- some of the parts have no code any more, and the others stay
pub record Loosens (old new : List MachinePart) : Type 0 where
  pub count : length new ≡ length old
  pub each : (i : ℕ) (was now : MachinePart) → slice_get old i ≡ Some was → slice_get new i ≡ Some now → (now ≡ was) ⊎ IsLoosened was now

-- those whose members are stepped by vicinities have none
abbrev pub LoosensHeld : Option WideData → List MachinePart → Type 0
LoosensHeld wide parts = (i : ℕ) (part : MachinePart) → slice_get parts i ≡ Some part →
    HoldsNode wide (slice_index part.map.items 0) → part.code ≡ None

-- of these parts, which are for these slots, that for this slot has code
pub record HasCodeIn (slots : List ℕ) (parts : List MachinePart) (k : ℕ) : Type 0 where
  pub i : ℕ
  pub slot : slice_get slots i ≡ Some k
  pub part : MachinePart
  pub there : slice_get parts i ≡ Some part
  pub coded : part.code ≢ None

-- the stale part with this number is the group's
pub record IsSlotOf (g : GraphData) (parts : List MachinePart) (group : Group) (k : ℕ) : Type 0 where
  pub part : MachinePart
  pub stands : Stands parts k part
  pub stale : part.code ≡ None
  pub is_part : IsPartOf g group part

-- some part with a text is that of the group
pub record HasText (g : GraphData) (parts : List MachinePart) (uses : List (Option GroupTextData)) (group : Group) : Type 0 where
  pub k : ℕ
  pub part : MachinePart
  pub stands : Stands parts k part
  pub is_part : IsPartOf g group part
  pub numbered : slice_index_or uses k None ≢ None

-- these of the groups wait, in their order, with their parts' numbers: all stale parts without a text whose groups have one are among these, and
-- the part of each other group with a text has one
pub record AreWaiting (g : GraphData) (parts : List MachinePart) (uses : List (Option GroupTextData)) (groups some : List Group) (slots : List ℕ) : Type 0 where
  pub waits : Group → Bool
  pub some_are : some ≡ filter waits groups
  pub others : (group : Group) → Contains groups group → waits group ≡ false → fault_in group ≡ None → HasText g parts uses group
  pub slots_are : AllZip (IsSlotOf g parts) some slots
  pub all : (k : ℕ) (part : MachinePart) (group : Group) → Stands parts k part → part.code ≡ None → IsPartOf g group part → fault_in group ≡ None →
      Contains slots k ⊎ (slice_index_or uses k None ≢ None)
  pub once : AreOnce slots

-- the first node of the map of the part with this number
abbrev pub first_node : List MachinePart → ℕ → ℕ
first_node parts k = slice_index (slice_index_or (map (λ part. part.map.items) parts) k []) 0
