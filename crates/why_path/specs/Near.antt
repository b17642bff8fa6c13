-- What is near a node: its group.
use Rattle.std.specs.Prelude.{ℕ, List, Contains}
use Rattle.switch_paths.specs.Graphs.{GraphData, IsStorage}
use Rattle.group_meaning.specs.Groups.{IsGroup}

-- these are the members and the places of the switches of the group of a storage node; an input node has no group
abbrev pub IsNear : GraphData → List ℕ → List ℕ → ℕ → Type 0
IsNear g members switches node =
    IsStorage g node → IsGroup g (record { members = members; switches = switches }) × Contains members node
