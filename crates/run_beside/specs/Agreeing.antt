-- Groups on which two runs agree, and how they move.
-- After Bryant and Schuster, "Performance Evaluation of FMOSSIM, a Concurrent Switch-Level Fault Simulator", 1985.
use Rattle.std.specs.Prelude.{◌≡◌, ◌≢◌, ℕ, ◌<◌, ◌↔◌, ◌⊎◌, Bool, true, false, List, length, Contains}
use Rattle.ternary.specs.declared.tern.Tern.{Tern}
use Rattle.strength_order.specs.declared.TheConstants.{INPUT_LEVEL}
use Rattle.switch_paths.specs.Switching.{state_at}
use Rattle.switch_paths.specs.Graphs.{GraphData, IsWired, nodes, level_of}
use Rattle.switch_paths.specs.Step.{IsResponse, IsStep}
use Rattle.settling.specs.Settling.{IsJoinStep}
use Rattle.part_words.specs.Noting.{after}
use Rattle.group_meaning.specs.Groups.{Group}
use Rattle.group_rest.specs.Rest.{Reads}
use Rattle.group_rest.specs.Alike.{IsAlike}

-- the members of a group and the nodes that it reads have the same states in both
pub record Agrees (g : GraphData) (group : Group) (good bad : List Tern) : Type 0 where
  pub members : (node : ℕ) → Contains group.members node → state_at bad node ≡ state_at good node
  pub reads : (node : ℕ) → Reads g group node → state_at bad node ≡ state_at good node

-- a step of one kind: a joining one, or a plain one
abbrev pub IsMove : Bool → GraphData → List Tern → List Tern → Type 0
IsMove true g old new = IsJoinStep g old new
IsMove false g old new = IsStep g old new

-- these nodes are all that differ between two states
abbrev pub AllThatDiffer : List ℕ → List Tern → List Tern → Type 0
AllThatDiffer differ good bad = (node : ℕ) → state_at bad node ≢ state_at good node → Contains differ node

-- a group has none of these nodes as a member and reads none of them
pub record IsApartFrom (g : GraphData) (group : Group) (differ : List ℕ) : Type 0 where
  pub members : (node : ℕ) → Contains differ node → ¬ Contains group.members node
  pub reads : (node : ℕ) → Contains differ node → ¬ Reads g group node

-- such a group has the same steady states in both
abbrev pub AgreeingGroupsRespondAlike : Type 0
AgreeingGroupsRespondAlike =
    (g h : GraphData) (group : Group) (good bad : List Tern) → IsWired g → IsWired h → IsAlike g h group → Agrees g group good bad →
    (node : ℕ) → Contains group.members node → (answer : Tern) → IsResponse h bad node answer ↔ IsResponse g good node answer

-- and its members move alike
abbrev pub AgreeingGroupsMoveAlike : Type 0
AgreeingGroupsMoveAlike =
    (joining : Bool) (g h : GraphData) (group : Group) (good good_next bad bad_next : List Tern) → IsWired g → IsWired h →
    IsAlike g h group → Agrees g group good bad → IsMove joining g good good_next → IsMove joining h bad bad_next →
    (node : ℕ) → Contains group.members node → state_at bad_next node ≡ state_at good_next node

-- so no member differs afterwards of a group that is alike in both graphs and has to do with no node that differs
abbrev pub UnlistedGroupsMoveAlike : Type 0
UnlistedGroupsMoveAlike =
    (joining : Bool) (g h : GraphData) (group : Group) (differ : List ℕ) (good good_next bad bad_next : List Tern) → IsWired g → IsWired h →
    IsAlike g h group → AllThatDiffer differ good bad → IsApartFrom g group differ →
    IsMove joining g good good_next → IsMove joining h bad bad_next →
    (node : ℕ) → Contains group.members node → state_at bad_next node ≡ state_at good_next node

-- an input node of both graphs that doesn't differ differs in no step
abbrev pub InputNodesMoveAlike : Type 0
InputNodesMoveAlike =
    (joining : Bool) (g h : GraphData) (good good_next bad bad_next : List Tern) (node : ℕ) → IsWired g → IsWired h →
    node < nodes g → node < nodes h → level_of g node ≡ INPUT_LEVEL → level_of h node ≡ INPUT_LEVEL →
    IsMove joining g good good_next → IsMove joining h bad bad_next →
    state_at bad node ≡ state_at good node → state_at bad_next node ≡ state_at good_next node

-- a node follows the good run: it is a member of a group that is alike in both graphs and on which both runs agree, and has the good state afterwards
pub record Follows (g h : GraphData) (good good_next bad bad_next : List Tern) (node : ℕ) : Type 0 where
  pub group : Group
  pub alike : IsAlike g h group
  pub member : Contains group.members node
  pub agrees : Agrees g group good bad
  pub takes : state_at bad_next node ≡ state_at good_next node

-- a node is evaluated: it takes its steady state under the fault
pub record IsEvaluated (joining : Bool) (h : GraphData) (bad bad_next : List Tern) (node : ℕ) : Type 0 where
  pub answer : Tern
  pub response : IsResponse h bad node answer
  pub takes : state_at bad_next node ≡ after joining (state_at bad node) answer

-- a node stays, and its state is its steady state or it is an input node
pub record StaysAtRest (h : GraphData) (bad bad_next : List Tern) (node : ℕ) : Type 0 where
  pub steady : (IsResponse h bad node (state_at bad node)) ⊎ (level_of h node ≡ INPUT_LEVEL)
  pub stays : state_at bad_next node ≡ state_at bad node

-- if each node follows the good run's step, is evaluated, or stays at rest, the run under a fault took a step of the same kind
abbrev pub StepsByDifference : Type 0
StepsByDifference =
    (joining : Bool) (g h : GraphData) (good good_next bad bad_next : List Tern) → IsWired g → IsWired h →
    length bad ≡ nodes h → length bad_next ≡ nodes h → IsMove joining g good good_next →
    ((node : ℕ) → node < nodes h →
    Follows g h good good_next bad bad_next node ⊎ (IsEvaluated joining h bad bad_next node ⊎ StaysAtRest h bad bad_next node)) →
    IsMove joining h bad bad_next
