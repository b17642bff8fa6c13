-- Laws of live paths and of the unit step, each proved as the contract of a function in `src/laws.rt`.
-- After Bryant, "Boolean Analysis of MOS Circuits", 1987.
use Rattle.std.specs.Prelude.{◌≡◌, ℕ, ◌<◌, ◌≤◌, true, List, ◌++◌, length, Some}
use Rattle.ternary.specs.declared.tern.Tern.{Tern}
use Rattle.ternary.specs.Tern.{join}
use Rattle.strength_order.specs.declared.TheConstants.{INPUT_LEVEL}
use Rattle.switch_paths.specs.declared.switching.Switch.{Switch}
use Rattle.switch_paths.specs.Switching.{state_at, switch_state_at}
use Rattle.switch_paths.specs.Graphs.{GraphData, IsWired, nodes, level_of, place_at}
use Rattle.switch_paths.specs.Path.{Stand, LivePath, IsBlocked, Reaches}
use Rattle.switch_paths.specs.Step.{IsResponse, IsStep}

-- every node has an unblocked path, and even a definite one
abbrev pub EveryNodeIsReached : Type 0
EveryNodeIsReached =
    (g : GraphData) → IsWired g → (state : List Tern) → (node : ℕ) → node < nodes g →
    (root : ℕ) × (reached : Reaches g state root node) × (reached.there.definite ≡ true)

-- no definite path to where this one ends is stronger than it
abbrev pub IsStrongest : GraphData → List Tern → Stand → Type 0
IsStrongest g state there =
    (root : ℕ) (hops : List ℕ) (other : Stand) → LivePath g state root hops other →
    other.node ≡ there.node → other.definite ≡ true → other.strength ≤ there.strength

-- a path whose prefixes are all strongest for their ends is unblocked
abbrev pub StrongestIsUnblocked : Type 0
StrongestIsUnblocked =
    (g : GraphData) (state : List Tern) (root : ℕ) (hops : List ℕ) →
    ((front back : List ℕ) (there : Stand) → hops ≡ front ++ back → LivePath g state root front there →
    IsStrongest g state there) →
    ¬ IsBlocked g state root hops

-- cutting a cycle out of an unblocked path leaves an unblocked path with the same root and end
abbrev pub CyclesCanBeCut : Type 0
CyclesCanBeCut =
    (g : GraphData) (state : List Tern) (root : ℕ) (front cycle back : List ℕ) (before after there : Stand) →
    LivePath g state root front before → LivePath g state root (front ++ cycle) after → before.node ≡ after.node →
    LivePath g state root ((front ++ cycle) ++ back) there → (¬ IsBlocked g state root ((front ++ cycle) ++ back)) →
    (end : Stand) × LivePath g state root (front ++ back) end × (end.node ≡ there.node) ×
    (¬ IsBlocked g state root (front ++ back))

-- what a root reaches, reaches on: unblocked paths from r to m and from m to n give one from r to n
abbrev pub ReachesOn : Type 0
ReachesOn =
    (g : GraphData) (state : List Tern) (r m n : ℕ) → Reaches g state r m → Reaches g state m n → Reaches g state r n

-- a root that reaches some node reaches itself
abbrev pub RootsReachThemselves : Type 0
RootsReachThemselves =
    (g : GraphData) (state : List Tern) (r n : ℕ) → Reaches g state r n → Reaches g state r r

-- the steady state of an input node is its own state
abbrev pub InputNodesKeepTheirStates : Type 0
InputNodesKeepTheirStates =
    (g : GraphData) → IsWired g → (state : List Tern) (node : ℕ) → node < nodes g → level_of g node ≡ INPUT_LEVEL →
    IsResponse g state node (state_at state node)

-- every switch of the graph has the same state under both states of the nodes
abbrev pub SameSwitches : GraphData → List Tern → List Tern → Type 0
SameSwitches g a b =
    (place : ℕ) (switch : Switch) → place_at g.places place ≡ Some switch → switch_state_at a switch ≡ switch_state_at b switch

-- node by node the join of two states
pub record IsJoin (a b joined : List Tern) : Type 0 where
  pub left : length joined ≡ length a
  pub right : length joined ≡ length b
  pub each : (node : ℕ) → node < length joined → state_at joined node ≡ join (state_at a node) (state_at b node)

-- the step is additive: while the switches' states agree, the step of a join is the join of the steps
abbrev pub StepsJoin : Type 0
StepsJoin =
    (g : GraphData) → IsWired g → (a b joined next_a next_b next : List Tern) →
    length a ≡ nodes g → length b ≡ nodes g → SameSwitches g a b → IsJoin a b joined →
    IsStep g a next_a → IsStep g b next_b → IsJoin next_a next_b next → IsStep g joined next

-- the step is idempotent: where a step leaves the switches' states as they were, its outcome is steady
abbrev pub StepsRest : Type 0
StepsRest =
    (g : GraphData) → IsWired g → (state next : List Tern) →
    length state ≡ nodes g → IsStep g state next → SameSwitches g state next → IsStep g next next

-- every state of a graph has a step
abbrev pub StepExists : Type 0
StepExists = (g : GraphData) → IsWired g → (state : List Tern) → (next : List Tern) × IsStep g state next

-- and has no other one
abbrev pub StepIsUnique : Type 0
StepIsUnique =
    (g : GraphData) (state next other : List Tern) → IsStep g state next → IsStep g state other → next ≡ other
