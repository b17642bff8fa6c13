-- Touched nodes: the vicinities of all others have the steady states that they took.
-- After Bryant, "A Switch-Level Model and Simulator for MOS Digital Systems", 1984.
use Rattle.std.specs.Prelude.{◌≡◌, ◌≢◌, ℕ, ◌⊎◌, List, Contains, Some}
use Rattle.ternary.specs.declared.tern.Tern.{Tern}
use Rattle.strength_order.specs.declared.TheConstants.{INPUT_LEVEL}
use Rattle.switch_paths.specs.declared.switching.Switch.{Switch}
use Rattle.switch_paths.specs.Switching.{state_at, switch_state_at}
use Rattle.switch_paths.specs.Graphs.{GraphData, level_of, place_at}
use Rattle.switch_paths.specs.Path.{Joins}
use Rattle.switch_paths.specs.Step.{IsResponse}
use Rattle.group_meaning.specs.Groups.{AreJoined}
use Rattle.vicinity.specs.Vicinities.{live_graph, AreNear}

-- a switch with an end at the node has another state than before
pub record SwitchChanges (g : GraphData) (old new : List Tern) (node : ℕ) : Type 0 where
  pub place : ℕ
  pub switch : Switch
  pub at_place : place_at g.places place ≡ Some switch
  pub other : ℕ
  pub joins : Joins switch node other
  pub changed : switch_state_at new switch ≢ switch_state_at old switch

-- an input node that a switch joins with the node, which wasn't open, has another state than before
pub record EdgeChanges (g : GraphData) (old new : List Tern) (node : ℕ) : Type 0 where
  pub place : ℕ
  pub other : ℕ
  pub joined : AreJoined (live_graph g old) place node other
  pub input : level_of g other ≡ INPUT_LEVEL
  pub changed : state_at new other ≢ state_at old other

-- a change of the state stirs a node if a switch at it changes, or an input node that such a switch joins with it
abbrev pub IsStirred : GraphData → List Tern → List Tern → ℕ → Type 0
IsStirred g old new node = SwitchChanges g old new node ⊎ EdgeChanges g old new node

-- a node is awake if one of the touched nodes is near it: the vicinity of that one is its own
abbrev pub IsAwake : GraphData → List Tern → List ℕ → ℕ → Type 0
IsAwake g state touched node = (one : ℕ) × Contains touched one × AreNear g state one node

-- each of these nodes that isn't awake rests: its state is its steady state
abbrev pub RestsAsleep : GraphData → List Tern → List ℕ → List ℕ → Type 0
RestsAsleep g state members touched =
    (node : ℕ) → Contains members node → (¬ IsAwake g state touched node) → IsResponse g state node (state_at state node)

-- each of these nodes that isn't awake took its steady state
abbrev pub RespondedAsleep : GraphData → List Tern → List Tern → List ℕ → List ℕ → Type 0
RespondedAsleep g old new members touched =
    (node : ℕ) → Contains members node → (¬ IsAwake g old touched node) → IsResponse g old node (state_at new node)
