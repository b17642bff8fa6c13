-- The evaluation of what is awake: which nodes take which states.
-- After Bryant, "A Switch-Level Model and Simulator for MOS Digital Systems", 1984.
use Rattle.std.specs.Prelude.{◌≡◌, ◌≢◌, ℕ, ◌+◌, ◌*◌, ◌<◌, ◌≤◌, ◌↔◌, ◌⊎◌, Bool, true, List, ◌++◌, length, Contains, slice_index}
use Rattle.vicinity.specs.Lists.{LiveListData}
use Rattle.ternary.specs.declared.tern.Tern.{Tern}
use Rattle.ternary.specs.Tern.{may_one, may_zero}
use Rattle.part_words.specs.Noting.{after}
use Rattle.switch_paths.specs.Switching.{state_at}
use Rattle.switch_paths.specs.Graphs.{GraphData}
use Rattle.switch_paths.specs.Step.{IsResponse}
use Rattle.part_words.specs.declared.change.Change.{Change}
use Rattle.vicinity.specs.NodeSets.{NodeSetData, IsIn}
use Rattle.vicinity.specs.Touching.{IsAwake}
use Rattle.vicinity.specs.Spreading.{size_of}

-- for how many nodes the room was made
pub record ScratchData : Type 0 where
  pub nodes : ℕ

-- the room has an entry for each of so many nodes, both sets are empty, and the floor is at 0 throughout
pub record IsScratch (nodes : ℕ) (awake left : NodeSetData) (floor best one zero : List ℕ) : Type 0 where
  pub awakes : length awake.inside ≡ nodes
  pub lefts : length left.inside ≡ nodes
  pub floors : length floor ≡ nodes
  pub bests : length best ≡ nodes
  pub ones : length one ≡ nodes
  pub zeros : length zero ≡ nodes
  pub nobody : (node : ℕ) → ¬ IsIn awake.inside node
  pub none : (node : ℕ) → ¬ IsIn left.inside node
  pub bottom : (node : ℕ) → slice_index floor node ≡ 0

-- the value has the rails for which the node has entries
pub record HasRails (one zero : List ℕ) (node : ℕ) (value : Tern) : Type 0 where
  pub ones : (may_one value ≡ true) ↔ (0 < slice_index one node)
  pub zeros : (may_zero value ≡ true) ↔ (0 < slice_index zero node)

-- each node that is asked for has a value of this kind; those that change by it are noted, with their new states, and no others
pub record NotesWhere (Asked : ℕ → Type 0) (Gives : ℕ → Tern → Type 0) (joining : Bool) (state : List Tern) (old new : List Change) : Type 0 where
  pub more : List Change
  pub list : new ≡ old ++ more
  pub only : (change : Change) → Contains more change → Asked change.node × ((value : Tern) × Gives change.node value
      × (change.value ≡ after joining (state_at state change.node) value)) × (change.value ≢ state_at state change.node)
  pub all : (node : ℕ) → Asked node → (value : Tern) × Gives node value
      × ((after joining (state_at state node) value ≡ state_at state node)
      ⊎ Contains more (record { node = node; value = after joining (state_at state node) value }))

-- behind the old changes are noted those of the nodes that are awake, to their steady states or, in a joining step, to the join with them
abbrev pub AreChanges : Bool → GraphData → List Tern → List ℕ → List Change → List Change → Type 0
AreChanges joining g state touched = NotesWhere (IsAwake g state touched) (IsResponse g state) joining state

-- the work is at most so many times what it costs to look from each node that is awake
pub record IsPaid (g : GraphData) (lists : List LiveListData) (state : List Tern) (touched : List ℕ) (old new : ℕ) : Type 0 where
  pub inside : List Bool
  pub awake : (node : ℕ) → IsIn inside node → IsAwake g state touched node
  pub steps : new ≤ old + 55 * size_of lists inside
