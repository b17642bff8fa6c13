-- The nodes that the groups of a graph read, as lists.
use Rattle.std.specs.Prelude.{◌↔◌, ℕ, ◌==◌, List, [], ◌∷◌, ◌++◌, Contains, Option, None, Some, nat_eq, if◌then◌else◌}
use Rattle.std.specs.List.{IsDistinct}
use Rattle.strength_order.specs.declared.TheConstants.{INPUT_LEVEL}
use Rattle.switch_paths.specs.declared.switching.Switch.{Switch}
use Rattle.switch_paths.specs.Graphs.{GraphData, level_of}
use Rattle.group_meaning.specs.Groups.{Group}
use Rattle.group_rest.specs.Rest.{Reads}

-- these are the nodes that the group reads, each once
pub record AreReads (g : GraphData) (group : Group) (nodes : List ℕ) : Type 0 where
  pub each : (node : ℕ) → Contains nodes node ↔ Reads g group node
  pub once : IsDistinct nat_eq nodes

-- the node, if it is an input node
abbrev pub inputs_of : GraphData → ℕ → List ℕ
inputs_of g node = if level_of g node == INPUT_LEVEL then node ∷ [] else []

-- the nodes that what stands at a place reads: its gate, and its ends that are input nodes
abbrev pub reads_at : GraphData → Option Switch → List ℕ
reads_at g None = []
reads_at g (Some switch) = switch.gate ∷ (inputs_of g switch.a ++ inputs_of g switch.b)
