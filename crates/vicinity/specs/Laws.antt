-- Laws of vicinities, each proved as the contract of a function in `src/laws.rt`.
-- After Bryant, "A Switch-Level Model and Simulator for MOS Digital Systems", 1984.
use Rattle.std.specs.Prelude.{ℕ, ◌↔◌, List, Contains}
use Rattle.ternary.specs.declared.tern.Tern.{Tern}
use Rattle.switch_paths.specs.Graphs.{GraphData, IsWired, IsStorage}
use Rattle.switch_paths.specs.Path.{Stand, IsBlocked}
use Rattle.switch_paths.specs.Step.{IsResponse}
use Rattle.group_meaning.specs.Groups.{AreLinked, Group, IsGroup}
use Rattle.group_meaning.specs.Laws.{StandsAt}
use Rattle.group_rest.specs.Rest.{Rests, Responded}
use Rattle.vicinity.specs.Vicinities.{live_graph, AreNear, IsVicinity}
use Rattle.vicinity.specs.Touching.{IsStirred, RestsAsleep, RespondedAsleep}

-- all storage nodes on an unblocked path are near each other
abbrev pub UnblockedPathsStayInOneVicinity : Type 0
UnblockedPathsStayInOneVicinity =
    (g : GraphData) → IsWired g → (state : List Tern) (root : ℕ) (hops : List ℕ) → (¬ IsBlocked g state root hops) →
    (first second : ℕ) (m n : Stand) → StandsAt g state root hops first m → StandsAt g state root hops second n →
    IsStorage g m.node → IsStorage g n.node → AreNear g state m.node n.node

-- a node has the same steady state without the open switches
abbrev pub OpenSwitchesDontMatter : Type 0
OpenSwitchesDontMatter =
    (g : GraphData) (state : List Tern) (node : ℕ) (answer : Tern) →
    IsResponse (live_graph g state) state node answer ↔ IsResponse g state node answer

-- a vicinity lies in a group
abbrev pub NearNodesAreLinked : Type 0
NearNodesAreLinked = (g : GraphData) (state : List Tern) (m n : ℕ) → AreNear g state m n → AreLinked g m n

-- a vicinity none of whose nodes is stirred after its members took their steady states is one of the new state too, and rests
abbrev pub UnstirredVicinitiesRest : Type 0
UnstirredVicinitiesRest =
    (g : GraphData) (vicinity : Group) (old new : List Tern) → IsWired g → IsVicinity g old vicinity →
    Responded g old new vicinity.members → ((node : ℕ) → Contains vicinity.members node → ¬ IsStirred g old new node) →
    IsVicinity g new vicinity × Rests g new vicinity.members

-- if each stirred member of a group is touched, and each that touched nodes left asleep took its steady state, the members that are asleep
-- afterwards rest
abbrev pub AsleepMembersRest : Type 0
AsleepMembersRest =
    (g : GraphData) (group : Group) (touched : List ℕ) (old new : List Tern) → IsWired g → IsGroup g group →
    RespondedAsleep g old new group.members touched →
    ((node : ℕ) → Contains group.members node → IsStirred g old new node → Contains touched node) →
    RestsAsleep g new group.members touched
