-- Which texts a machine's groups had at its last build, and what an edit and a build make of that.
-- After Beatty and Bryant, "Fast Incremental Circuit Analysis Using Extracted Hierarchy", 1988.
use Rattle.std.specs.Prelude.{◌≡◌, ℕ, ◌<◌, ◌≤◌, min, Bool, true, false, List, [], ◌∷◌, length, map, filter, take, not, if◌then◌else◌, All, Contains, Option, None, Some, slice_get, slice_set, slice_index, slice_index_or}
use Rattle.std.specs.List.Sorted.{IsStrictlyIncreasing}
use Rattle.std.specs.Option.{option_and_then}
use Rattle.group_text.specs.Texts.{GroupTextData}
use Rattle.group_text.specs.FirstTexts.{is_among, first_texts}
use Rattle.group_analysis.specs.Using.{used_texts, kept_after}
use Rattle.kept_parts.specs.Uses.{UsesData, texts_used, some_texts}
use Rattle.machine_parts.specs.declared.part.MachinePart.{MachinePart}
use Rattle.unit_step.specs.declared.last_texts.LastTexts.{LastTexts}
use Rattle.machine_parts.specs.Parts.{has_members}
use Rattle.machine_laws.specs.Beginnings.{Begins}

-- the text with each of these numbers, if there is a number
abbrev pub texts_numbered : List GroupTextData → List (Option ℕ) → List GroupTextData
texts_numbered known numbers = some_texts (texts_used (record { known = known; numbers = numbers }))

-- the texts at the last build, in order
abbrev pub texts_of_last : List GroupTextData → LastTexts → List GroupTextData
texts_of_last known last_texts = texts_numbered known last_texts.numbers.items

-- of these numbers each that was seen has its place among the first ones: so these stand for the same texts, in the same order of first appearance,
-- whatever text has which number
pub record AreFirsts (numbers firsts : List (Option ℕ)) (seen : List Bool) : Type 0 where
  pub same : (known : List GroupTextData) → first_texts (texts_numbered known firsts) ≡ first_texts (texts_numbered known numbers)
  pub inside : (place number : ℕ) → slice_index_or firsts place None ≡ Some number → number < length seen
  pub there : (number : ℕ) → slice_index_or seen number false ≡ true → Contains numbers (Some number)

-- of so many nodes, each has the number of the text of the part that begins there, or none, but for those nodes that are noted; what stands
-- behind the numbers of the parts is none
pub record AreLastTexts (parts : List MachinePart) (numbers : List (Option ℕ)) (count known : ℕ) (last_texts : LastTexts) : Type 0 where
  pub counted : length last_texts.numbers.items ≡ count
  pub inside : (node number : ℕ) → slice_index_or last_texts.numbers.items node None ≡ Some number → number < known
  pub begins : (node number : ℕ) → slice_index_or last_texts.numbers.items node None ≡ Some number → ¬ Contains last_texts.changed.items node →
      Begins parts numbers node number
  pub lasts : (node number : ℕ) → Begins parts numbers node number → ¬ Contains last_texts.changed.items node →
      slice_index_or last_texts.numbers.items node None ≡ Some number
  pub within : All (λ node. node < count) last_texts.changed.items
  pub beyond : (k : ℕ) → length parts ≤ k → slice_index_or numbers k None ≡ None

-- the text with this number, if there is one
abbrev pub text_in : UsesData → Option ℕ → List GroupTextData
text_in uses number = some_texts (option_and_then (slice_get uses.known) number ∷ [])

-- the node at which a part begins, if it has members
abbrev pub starts_of : MachinePart → List ℕ
starts_of part = take (min part.members 1) part.map.items

-- the number of a part's text, where the part begins, if it has members
abbrev pub with_beginning : MachinePart → Option ℕ → List (Option ℕ) → List (Option ℕ)
with_beginning part number numbers = if has_members part then slice_set numbers (slice_index part.map.items 0) number else numbers

-- a text that no part has
abbrev pub is_unused : UsesData → GroupTextData → Bool
is_unused uses text = not (is_among (some_texts (texts_used uses)) text)

-- the texts at these nodes, for which these numbers stand, that no part has any more
abbrev pub texts_left : UsesData → List (Option ℕ) → List ℕ → List GroupTextData
texts_left uses numbers places = filter (is_unused uses) (some_texts (map (λ node. option_and_then (slice_get uses.known) (slice_index_or numbers node None)) places))

-- the texts at the noted nodes that no part has any more, in the order of these nodes
pub record AreLeavers (uses : UsesData) (last_texts : LastTexts) (texts : List GroupTextData) : Type 0 where
  pub places : List ℕ
  pub ascending : IsStrictlyIncreasing places
  pub these : (node : ℕ) → Contains last_texts.changed.items node → Contains places node
  pub only : (node : ℕ) → Contains places node → Contains last_texts.changed.items node
  pub are : texts ≡ texts_left uses last_texts.numbers.items places

-- the text with this number, if there is one, was moved to the front of what is kept, unless a part has it
abbrev pub UsesLeaver : UsesData → Option ℕ → List GroupTextData → List GroupTextData → Type 0
UsesLeaver uses number kept now = now ≡ used_texts (filter (is_unused uses) (text_in uses number)) kept

-- the texts that no part has any more were moved to the front of what is kept, in their order
pub record UsesLeavers (uses : UsesData) (last_texts : LastTexts) (kept now : List GroupTextData) : Type 0 where
  pub leavers : List GroupTextData
  pub are : AreLeavers uses last_texts leavers
  pub used : now ≡ used_texts leavers kept

-- what is kept now, with the present texts in front, is what a build leaves of what was kept, with the texts of the last build in front
abbrev pub IsLeft : Option ℕ → List GroupTextData → List GroupTextData → List GroupTextData → List GroupTextData → Type 0
IsLeft bound last kept present now = used_texts present now ≡ kept_after bound present (used_texts last kept)
