-- What a group reads, and where its members rest.
-- After Bryant, "Boolean Analysis of MOS Circuits", 1987.
use Rattle.std.specs.Prelude.{◌≡◌, ℕ, ◌⊎◌, List, Contains, Some}
use Rattle.ternary.specs.declared.tern.Tern.{Tern}
use Rattle.strength_order.specs.declared.TheConstants.{INPUT_LEVEL}
use Rattle.switch_paths.specs.declared.switching.Switch.{Switch}
use Rattle.switch_paths.specs.Switching.{state_at}
use Rattle.switch_paths.specs.Graphs.{GraphData, IsWired, level_of, place_at}
use Rattle.switch_paths.specs.Step.{IsResponse}
use Rattle.group_meaning.specs.Groups.{Group, IsGroup}

-- the switch has the node at its gate, or the node is an input node at one of its ends
abbrev pub SwitchReads : GraphData → Switch → ℕ → Type 0
SwitchReads g switch node = (switch.gate ≡ node) ⊎ (((switch.a ≡ node) ⊎ (switch.b ≡ node)) × (level_of g node ≡ INPUT_LEVEL))

-- a group reads a node if one of its switches does
pub record Reads (g : GraphData) (group : Group) (node : ℕ) : Type 0 where
  pub place : ℕ
  pub inside : Contains group.switches place
  pub switch : Switch
  pub at_place : place_at g.places place ≡ Some switch
  pub reads : SwitchReads g switch node

-- these members rest: the state of each is its steady state
abbrev pub Rests : GraphData → List Tern → List ℕ → Type 0
Rests g state members = (node : ℕ) → Contains members node → IsResponse g state node (state_at state node)

-- these members responded: each took its steady state under the old state
abbrev pub Responded : GraphData → List Tern → List Tern → List ℕ → Type 0
Responded g old new members = (node : ℕ) → Contains members node → IsResponse g old node (state_at new node)

-- no node that the group reads changed
abbrev pub ReadsNoChange : GraphData → Group → List Tern → List Tern → Type 0
ReadsNoChange g group old new = (node : ℕ) → Reads g group node → state_at new node ≡ state_at old node

-- where the members responded, and no node that the group reads changed, they rest
abbrev pub UnreadGroupsRest : Type 0
UnreadGroupsRest =
    (g : GraphData) (group : Group) (old new : List Tern) → IsWired g → IsGroup g group →
    Responded g old new group.members → ReadsNoChange g group old new → Rests g new group.members
