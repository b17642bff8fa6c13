-- The groups that are stepped by vicinities, as they are made of a graph.
-- After Bryant, "A Switch-Level Model and Simulator for MOS Digital Systems", 1984.
use Rattle.std.specs.Prelude.{◌≡◌, ℕ, Bool, List, Contains}
use Rattle.ternary.specs.declared.tern.Tern.{Tern}
use Rattle.switch_paths.specs.Graphs.{GraphData, IsStorage, IsWired}
use Rattle.group_meaning.specs.Groups.{Group, IsGroup}
use Rattle.group_rest.specs.Alike.{IsAlike}
use Rattle.vicinity.specs.Touching.{RestsAsleep}
use Rattle.vicinity.specs.NodeSets.{IsIn}
use Rattle.vicinity.specs.Wides.{WideData}
use Rattle.wide_groups.specs.Awake.{IsListed}

-- all members of the group are in the set
abbrev pub IsWithin : List Bool → Group → Type 0
IsWithin inside group = (node : ℕ) → Contains group.members node → IsIn inside node

-- the groups with these members are held under a state, all awake: the storage nodes are in the set, and each group of the graph whose members
-- are in the set stands alike in the graph of these groups, where its members rest but for those that are awake
pub record HoldsMembers (large : ℕ) (g : GraphData) (state : List Tern) (inside : List Bool) (wide : WideData) : Type 0 where
  pub bound : wide.large ≡ large
  pub listed : IsListed state wide
  pub wired : IsWired wide.graph
  pub storage : (node : ℕ) → IsStorage wide.graph node → IsIn inside node
  pub alike : (group : Group) → IsGroup g group → IsWithin inside group → IsAlike g wide.graph group
  pub rests : (group : Group) → IsGroup g group → IsWithin inside group → RestsAsleep wide.graph state group.members wide.touched.list
