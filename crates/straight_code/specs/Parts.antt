-- The parts of a circuit: the code of groups, each over nodes of the whole circuit.
use Rattle.std.specs.Prelude.{◌≡◌, ℕ, ◌<◌, ◌≤◌, List, length, map, All, Some, nat_eq, slice_get}
use Rattle.std.specs.List.{IsDistinct}
use Rattle.ternary.specs.declared.tern.Tern.{Tern}
use Rattle.strength_order.specs.declared.TheConstants.{INPUT_LEVEL}
use Rattle.switch_paths.specs.Switching.{state_at}
use Rattle.switch_paths.specs.Graphs.{GraphData, nodes, level_of}
use Rattle.straight_code.specs.declared.part.Part.{Part}

-- the part fits so many nodes: each input of its code stands for one of them, no two for the same, and its members are the nodes of
-- the first inputs, one for each output
pub record IsPart (count : ℕ) (part : Part) : Type 0 where
  pub inputs : length part.map.items ≡ part.code.value.inputs
  pub outputs : length part.code.value.outputs ≡ part.members
  pub members : part.members ≤ length part.map.items
  pub apart : IsDistinct nat_eq part.map.items
  pub below : All (λ node. node < count) part.map.items

-- the node is the member at place j of the map of part k
pub record IsMemberAt (parts : List Part) (node k j : ℕ) : Type 0 where
  pub part : Part
  pub stands : slice_get parts k ≡ Some part
  pub is_member : j < part.members
  pub at_place : slice_get part.map.items j ≡ Some node

-- the node is a member of some part
pub record IsMember (parts : List Part) (node : ℕ) : Type 0 where
  pub k : ℕ
  pub j : ℕ
  pub here : IsMemberAt parts node k j

-- the members of all parts are the storage nodes, each once
pub record AreMembers (g : GraphData) (parts : List Part) : Type 0 where
  pub storage : (node k j : ℕ) → IsMemberAt parts node k j → level_of g node < INPUT_LEVEL
  pub each : (node : ℕ) → node < nodes g → level_of g node < INPUT_LEVEL → IsMember parts node
  pub once : (node k j l i : ℕ) → IsMemberAt parts node k j → IsMemberAt parts node l i → k ≡ l

-- the states of the inputs of a part
abbrev pub mapped : Part → List Tern → List Tern
mapped part state = map (state_at state) part.map.items
