-- The flood from touched nodes to all that are near them.
use Rattle.std.specs.Prelude.{◌≡◌, ℕ, ◌<◌, ◌⊎◌, List, ◌++◌, length, Contains, slice_index}
use Rattle.ternary.specs.declared.tern.Tern.{Tern}
use Rattle.switch_paths.specs.Graphs.{GraphData, IsStorage}
use Rattle.vicinity.specs.NodeSets.{NodeSetData, IsIn}
use Rattle.vicinity.specs.Arms.{LeadsTo}
use Rattle.vicinity.specs.Touching.{IsAwake}

-- those of these that are storage nodes came to the set, behind those that were there
pub record Wakes (g : GraphData) (These : ℕ → Type 0) (old new : NodeSetData) : Type 0 where
  pub count : length new.inside ≡ length old.inside
  pub stays : (node : ℕ) → IsIn old.inside node → IsIn new.inside node
  pub all : (node : ℕ) → These node → IsStorage g node → IsIn new.inside node
  pub only : (node : ℕ) → IsIn new.inside node → IsIn old.inside node ⊎ (These node × IsStorage g node)
  pub more : List ℕ
  pub list : new.list ≡ old.list ++ more

-- some switch that isn't open leads from the one node to the other
abbrev pub IsNext : GraphData → List Tern → ℕ → ℕ → Type 0
IsNext g state node other = (place : ℕ) × LeadsTo g state place node other

-- what is in the set is awake, the touched storage nodes are in it, and with each of the first nodes of its list all that are next to it
pub record IsFlooding (g : GraphData) (state : List Tern) (touched : List ℕ) (count : ℕ) (set : NodeSetData) : Type 0 where
  pub awake : (node : ℕ) → IsIn set.inside node → IsAwake g state touched node
  pub seeds : (node : ℕ) → Contains touched node → IsStorage g node → IsIn set.inside node
  pub seen : (i : ℕ) → i < count → (other : ℕ) → IsNext g state (slice_index set.list i) other → IsStorage g other → IsIn set.inside other
