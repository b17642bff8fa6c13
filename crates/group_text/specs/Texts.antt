-- The text of a group: all that its analysis depends on, with the group's nodes and switches numbered anew.
-- After Beatty and Bryant, "Fast Incremental Circuit Analysis Using Extracted Hierarchy", 1988.
use Rattle.std.specs.Prelude.{◌≡◌, ℕ, ◌-◌, ◌<◌, ◌≤◌, ◌==◌, nat_lt, not, List, [], ◌∷◌, ◌++◌, length, map, filter, replicate, position, unwrap_or, Option, Some, None, option_map, if◌then◌else◌}
use Rattle.std.specs.List.{flat_map}
use Rattle.ternary.specs.declared.tern.Tern.{Tern}
use Rattle.ternary.specs.declared.tern.Tern.TheVariants.{Zero, One}
use Rattle.strength_order.specs.declared.TheConstants.{INPUT_LEVEL}
use Rattle.switch_paths.specs.declared.switching.Switch.{Switch}
use Rattle.switch_paths.specs.Switching.{state_at}
use Rattle.switch_paths.specs.Graphs.{GraphData, IsWired, nodes, level_of, place_at, IsStorage}
use Rattle.group_meaning.specs.Groups.{Group}
use Rattle.group_text.specs.declared.text.TheConstants.{MOST_MEMBERS, MOST_SWITCHES}
use Rattle.group_text.specs.declared.text.TextFault.{TextFault}
use Rattle.group_text.specs.declared.text.TextFault.TheVariants.{GroupNodes, GroupSwitches}
use Rattle.switch_paths.specs.declared.TheConstants.{GND, VDD}

-- a text as contracts see it: the local graph, how many of its nodes are members, and the constant of each
-- local node that is a rail
pub record GroupTextData : Type 0 where
  pub graph : GraphData
  pub members : ℕ
  pub constants : List (Option Tern)

-- each item once, where it appears first
abbrev pub firsts : List ℕ → List ℕ
firsts [] = []
firsts (x ∷ xs) = x ∷ filter (λ y. not (y == x)) (firsts xs)

-- the nodes at the terminals of what stands at a place: gate, first end, second end
abbrev pub terminals_of : Option Switch → List ℕ
terminals_of None = []
terminals_of (Some switch) = switch.gate ∷ switch.a ∷ switch.b ∷ []

-- the nodes that a group's local nodes stand for, in order: the members, then the outside nodes as they appear
-- at the terminals of the switches, each once. A gate that is a member stays that member
abbrev pub local_nodes : GraphData → Group → List ℕ
local_nodes g group = firsts (group.members ++ flat_map (λ place. terminals_of (place_at g.places place)) group.switches)

-- the local node that stands for a node
abbrev pub local_of : List ℕ → ℕ → ℕ
local_of locals node = unwrap_or (position (λ other. other == node) locals) 0

-- the switch between the local nodes
abbrev pub local_switch : List ℕ → Switch → Switch
local_switch locals switch = record switch {
  gate = local_of locals switch.gate;
  a = local_of locals switch.a;
  b = local_of locals switch.b;
}

-- the constant of a node: 0 for Gnd, 1 for Vdd, none for the others
abbrev pub constant_of : ℕ → Option Tern
constant_of node = if node == GND then Some Zero else (if node == VDD then Some One else None)

-- the local graph: the members keep their levels, the outside nodes are input nodes; the group's switches stand
-- in order, with no empty place
abbrev pub local_graph : GraphData → Group → GraphData
local_graph g group =
    let locals = local_nodes g group in
    record {
      levels = map (level_of g) group.members ++ replicate (length locals - length group.members) INPUT_LEVEL;
      places = map (λ place. option_map (local_switch locals) (place_at g.places place)) group.switches;
    }

-- the text of a group
abbrev pub text_of_group : GraphData → Group → GroupTextData
text_of_group g group = record {
  graph = local_graph g group;
  members = length group.members;
  constants = map constant_of (local_nodes g group);
}

-- the local state: each local node has the state of the node that it stands for
abbrev pub local_state : List ℕ → List Tern → List Tern
local_state locals state = map (state_at state) locals

-- a text is well formed: its graph is, its members are its first nodes and are storage nodes, its other nodes
-- are input nodes, and each node has a constant or none
pub record IsText (text : GroupTextData) : Type 0 where
  pub wired : IsWired text.graph
  pub members : text.members ≤ nodes text.graph
  pub storage : (node : ℕ) → node < text.members → IsStorage text.graph node
  pub outside : (node : ℕ) → text.members ≤ node → node < nodes text.graph → level_of text.graph node ≡ INPUT_LEVEL
  pub constants : length text.constants ≡ nodes text.graph

-- the fault of a group with so many members and switches: too many members, else too many switches
abbrev pub size_fault : ℕ → ℕ → Option TextFault
size_fault members switches =
    if nat_lt MOST_MEMBERS members then Some (GroupNodes members)
    else (if nat_lt MOST_SWITCHES switches then Some (GroupSwitches switches) else None)

-- a text of no more than 200 members, 800 switches, and 2,600 local nodes
pub record IsSmall (text : GroupTextData) : Type 0 where
  pub members : text.members ≤ 200
  pub switches : length text.graph.places ≤ 800
  pub few : nodes text.graph ≤ 2600
