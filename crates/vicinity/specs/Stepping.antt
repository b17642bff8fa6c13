-- A step over the members of large groups: those that are awake are evaluated, changes are written, and what they stir is touched.
-- After Bryant, "A Switch-Level Model and Simulator for MOS Digital Systems", 1984.
use Rattle.std.specs.Prelude.{◌≡◌, ◌≢◌, ℕ, ◌⊎◌, Bool, List, length, Contains, Some}
use Rattle.ternary.specs.declared.tern.Tern.{Tern}
use Rattle.switch_paths.specs.declared.switching.Switch.{Switch}
use Rattle.switch_paths.specs.Switching.{state_at, state_by}
use Rattle.switch_paths.specs.Graphs.{GraphData, IsStorage, place_at}
use Rattle.switch_paths.specs.Path.{Joins}
use Rattle.switch_paths.specs.Step.{IsResponse}
use Rattle.group_meaning.specs.Groups.{Group, IsGroup}
use Rattle.vicinity.specs.NodeSets.{IsIn}
use Rattle.vicinity.specs.Flooding.{IsNext}
use Rattle.vicinity.specs.Touching.{SwitchChanges, RestsAsleep}
use Rattle.part_words.specs.Noting.{after}

-- the switch at the place has an end at the node, and it isn't in the same state under the two states of its gate
pub record TurnsAt (g : GraphData) (was now : Tern) (place node : ℕ) : Type 0 where
  pub switch : Switch
  pub at_place : place_at g.places place ≡ Some switch
  pub other : ℕ
  pub joins : Joins switch node other
  pub changed : state_by switch.kind now ≢ state_by switch.kind was

-- the storage nodes at which a switch changed are touched, with those that were, and no others
pub record Touches (g : GraphData) (old new : List Tern) (before touched : List Bool) : Type 0 where
  pub count : length touched ≡ length before
  pub stays : (node : ℕ) → IsIn before node → IsIn touched node
  pub all : (node : ℕ) → IsStorage g node → SwitchChanges g old new node → IsIn touched node
  pub only : (node : ℕ) → IsIn touched node → IsIn before node ⊎ (IsStorage g node × SwitchChanges g old new node)

-- a node that is given a state stirs itself, what a switch that isn't open joins with it, and the ends of the switches that change
abbrev pub Stirs : GraphData → List Tern → List Tern → ℕ → ℕ → Type 0
Stirs g old new placed node = (node ≡ placed) ⊎ (IsNext g old placed node ⊎ SwitchChanges g old new node)

-- each member of the group takes its steady state or, in a joining step, the join with it
abbrev pub MembersMove : Bool → GraphData → Group → List Tern → List Tern → Type 0
MembersMove joining g group old new =
    (node : ℕ) → Contains group.members node → (value : Tern) × IsResponse g old node value × (state_at new node ≡ after joining (state_at old node) value)

-- if the members that were asleep rested, all members move, and those that are asleep afterwards rest
abbrev pub StepsGroup : Bool → GraphData → List Tern → List Tern → List ℕ → List ℕ → Type 0
StepsGroup joining g old new before touched =
    (group : Group) → IsGroup g group → RestsAsleep g old group.members before →
    MembersMove joining g group old new × RestsAsleep g new group.members touched

-- if the members that were asleep rested, those that are asleep afterwards rest
abbrev pub PlacesGroup : GraphData → List Tern → List Tern → List ℕ → List ℕ → Type 0
PlacesGroup g old new before touched =
    (group : Group) → IsGroup g group → RestsAsleep g old group.members before → RestsAsleep g new group.members touched
