-- The formulas that an analyst holds under the texts that it was given.
use Rattle.std.specs.Prelude.{◌≡◌, ℕ, ◌<◌, Bool, List, [], ◌∷◌, length, All, Contains, Some, slice_index_or}
use Rattle.std.specs.List.{flat_map}
use Rattle.std.specs.Map.{keys_of, lookup}
use Rattle.bool_pool.specs.declared.gate.Gate.{Gate}
use Rattle.bool_pool.specs.declared.gate.Id.{Id}
use Rattle.bool_pool.specs.declared.gate.Rails.{Rails}
use Rattle.bool_pool.specs.Value.{value_at}
use Rattle.bool_pool.specs.Reach.{AnyReaches}
use Rattle.bool_pool.specs.Compact.{places_of}
use Rattle.dual_rail.specs.Conduct.{AreInside}
use Rattle.group_text.specs.Texts.{GroupTextData}
use Rattle.group_text.specs.Compared.{same_text}
use Rattle.node_elimination.specs.Analysis.{AreResponses}

-- texts, each with formulas
abbrev pub HeldData : Type 0
HeldData = List (GroupTextData × List Id)

-- what an analyst is: the texts that it was given, in order, the gates of its pool, and the formulas of the texts that it holds
pub record AnalystData : Type 0 where
  pub texts : List GroupTextData
  pub gates : List Gate
  pub held : HeldData

-- the formulas of pairs, in order: of each pair the one for "may be 1" first
abbrev pub ids_of : List Rails → List Id
ids_of pairs = flat_map (λ rails. rails.hi ∷ rails.lo ∷ []) pairs

-- the formulas of some lists, one list after the other
abbrev pub joined : List (List Id) → List Id
joined lists = flat_map (λ ids. ids) lists

-- these are two formulas for each member of the text: in every state of the local nodes in which the rails have their constants they have
-- the values of the rails of the member's steady state in the local graph
pub record AreFormulasOf (gates : List Gate) (text : GroupTextData) (ids : List Id) : Type 0 where
  pub pairs : List Rails
  pub are : ids ≡ ids_of pairs
  pub count : length pairs ≡ text.members
  pub inside : All (AreInside gates) pairs
  pub responses : AreResponses text.graph text.constants gates pairs

-- what is held under each text are its formulas
abbrev pub IsHolding : List Gate → HeldData → Type 0
IsHolding gates held = All (λ entry. AreFormulasOf gates entry.0 entry.1) held

-- each gate is one that a formula of a held text reaches
abbrev pub IsLean : List Gate → HeldData → Type 0
IsLean gates held =
    (place : ℕ) → place < length gates →
    (entry : GroupTextData × List Id) × Contains held entry × AnyReaches gates (places_of entry.1) place

-- as many formulas, each of which has in the new gates, for all variables, the value that it had in the old ones
pub record HaveValues (old : List Gate) (ids : List Id) (new : List Gate) (moved : List Id) : Type 0 where
  pub count : length moved ≡ length ids
  pub values : (k : ℕ) (d : Id) → k < length ids → (vars : ℕ → Bool) →
      value_at new vars (slice_index_or moved k d).place ≡ value_at old vars (slice_index_or ids k d).place

-- the texts stay, those that are held too; each formula that is held keeps its value; and there are only gates that these reach
pub record IsCompacted (old new : AnalystData) : Type 0 where
  pub texts : new.texts ≡ old.texts
  pub held : keys_of new.held ≡ keys_of old.held
  pub formulas : (text : GroupTextData) (ids : List Id) → lookup (same_text text) old.held ≡ Some ids →
      (moved : List Id) × (lookup (same_text text) new.held ≡ Some moved) × HaveValues old.gates ids new.gates moved
  pub lean : IsLean new.gates new.held
