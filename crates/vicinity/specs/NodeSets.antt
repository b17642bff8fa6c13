-- Sets of nodes: a mark for each node, and the list of those that are in the set.
use Rattle.std.specs.Prelude.{ℕ, Bool, List}
use Rattle.machine_parts.specs.Marking.{IsMarked}

-- a set of nodes as contracts see it: whether each node is in it, and those that are, in the order in which they came
pub record NodeSetData : Type 0 where
  pub inside : List Bool
  pub list : List ℕ

-- the node is in the set with these marks
abbrev pub IsIn : List Bool → ℕ → Type 0
IsIn inside node = IsMarked inside node
