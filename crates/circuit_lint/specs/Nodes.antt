-- Nodes that nothing can give a state, and nodes that nothing uses.
use Rattle.std.specs.Prelude.{◌≡◌, ℕ, ◌<◌, Bool, false, not, ◌&&◌, ◌||◌, ◌==◌, nat_lt, nat_le, List, length, take, filter_map, count_by, slice_index, slice_index_or, Option, Some, None, if◌then◌else◌}
use Rattle.std.specs.List.{list_any, range_with_len}
use Rattle.switch_paths.specs.declared.switching.Switch.{Switch}
use Rattle.switch_paths.specs.declared.TheConstants.{RAILS}
use Rattle.switch_paths.specs.Graphs.{GraphData, nodes, level_of, is_storage_level}
use Rattle.circuit_lint.specs.declared.counted.Counted.{Counted}

-- all nodes of a graph, ascending
abbrev pub all_nodes : GraphData → List ℕ
all_nodes g = range_with_len 0 (nodes g)

-- a switch stands at a place, with this gate
abbrev pub has_gate : ℕ → Option Switch → Bool
has_gate node None = false
has_gate node (Some switch) = switch.gate == node

-- a switch stands there, with an end at this node
abbrev pub has_end : ℕ → Option Switch → Bool
has_end node None = false
has_end node (Some switch) = (switch.a == node) || (switch.b == node)

-- of how many switches a node is the gate
abbrev pub gates_at : GraphData → ℕ → ℕ
gates_at g node = count_by (has_gate node) g.places

-- a node is an end of some switch
abbrev pub is_end : GraphData → ℕ → Bool
is_end g node = list_any (has_end node) g.places

-- a storage node is floating that is the gate of some switch and the end of none
abbrev pub is_floating : GraphData → ℕ → Bool
is_floating g node = is_storage_level (level_of g node) && (nat_lt 0 (gates_at g node) && not (is_end g node))

-- a node other than a rail is unused that is no gate and no end
abbrev pub is_unused : GraphData → ℕ → Bool
is_unused g node = nat_le RAILS node && ((gates_at g node == 0) && not (is_end g node))

-- what there is to tell of a node, if it is floating: the number of switches that it is the gate of
abbrev pub floating_at : GraphData → ℕ → Option Counted
floating_at g node = if is_floating g node then Some (record { number = node; count = gates_at g node }) else None

-- the floating nodes, ascending
abbrev pub floating_of : GraphData → List Counted
floating_of g = filter_map (floating_at g) (all_nodes g)

-- the unused nodes, ascending
abbrev pub unused_of : GraphData → List ℕ
unused_of g = filter_map (λ node. if is_unused g node then Some node else None) (all_nodes g)

-- a table has of each node the number of switches that it is the gate of, among the first places, so many of them
pub record AreGatesTo (g : GraphData) (count : ℕ) (gates : List ℕ) : Type 0 where
  pub size : length gates ≡ nodes g
  pub each : (node : ℕ) → node < nodes g → slice_index gates node ≡ count_by (has_gate node) (take count g.places)

-- and whether it is an end of some switch among them
pub record AreEndsTo (g : GraphData) (count : ℕ) (ends : List Bool) : Type 0 where
  pub size : length ends ≡ nodes g
  pub each : (node : ℕ) → node < nodes g → slice_index_or ends node false ≡ list_any (has_end node) (take count g.places)

-- both, among all places
abbrev pub AreGates : GraphData → List ℕ → Type 0
AreGates g gates = AreGatesTo g (length g.places) gates

abbrev pub AreEnds : GraphData → List Bool → Type 0
AreEnds g ends = AreEndsTo g (length g.places) ends
