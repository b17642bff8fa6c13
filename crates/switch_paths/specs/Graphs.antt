-- Graphs: a list of node levels, and a list of places that hold a switch or none.
-- After Bryant, "A Switch-Level Model and Simulator for MOS Digital Systems", 1984; the numbers of the levels
-- are this project's own.
use Rattle.std.specs.Prelude.{ℕ, ◌<◌, ◌≤◌, Bool, nat_lt, List, length, All, Option, Some, None, slice_index, slice_index_or}
use Rattle.strength_order.specs.declared.TheConstants.{INPUT_LEVEL, LEAST_SWITCH_LEVEL, GREATEST_SWITCH_LEVEL}
use Rattle.strength_order.specs.Levels.{IsLevel}
use Rattle.switch_paths.specs.declared.switching.Switch.{Switch}

-- a graph as contracts see it: the level of each node, and what stands at each place
pub record GraphData : Type 0 where
  pub levels : List ℕ
  pub places : List (Option Switch)

-- how many nodes the graph has
abbrev pub nodes : GraphData → ℕ
nodes g = length g.levels

-- the level of a node
abbrev pub level_of : GraphData → ℕ → ℕ
level_of g node = slice_index g.levels node

-- the level of a storage node, which keeps its state as charge: it is below that of an input node
abbrev pub is_storage_level : ℕ → Bool
is_storage_level level = nat_lt level INPUT_LEVEL

-- a storage node of the graph
pub record IsStorage (g : GraphData) (node : ℕ) : Type 0 where
  pub inside : node < nodes g
  pub below : level_of g node < INPUT_LEVEL

-- what stands at a place; past the last place nothing does
abbrev pub place_at : List (Option Switch) → ℕ → Option Switch
place_at places place = slice_index_or places place None

-- the switch fits a graph with so many nodes: its level is a switch's, its gate and its ends are nodes
pub record Fits (count : ℕ) (switch : Switch) : Type 0 where
  pub low : LEAST_SWITCH_LEVEL ≤ switch.level
  pub high : switch.level ≤ GREATEST_SWITCH_LEVEL
  pub gate : switch.gate < count
  pub a : switch.a < count
  pub b : switch.b < count

-- an empty place fits any graph
abbrev pub FitsPlace : ℕ → Option Switch → Type 0
FitsPlace count None = Unit {0}
FitsPlace count (Some switch) = Fits count switch

-- each level is a level, and each switch fits
pub record IsWired (g : GraphData) : Type 0 where
  pub levels : All IsLevel g.levels
  pub places : All (FitsPlace (length g.levels)) g.places
