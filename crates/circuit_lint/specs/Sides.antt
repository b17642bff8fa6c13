-- What is at the ends of a group's switches: groups that no input node drives, groups that have one rail alone, and groups that are too
-- large for a text.
use Rattle.std.specs.Prelude.{ℕ, Bool, false, not, ◌&&◌, ◌||◌, nat_lt, nat_le, is_some, List, length, map, filter, Option, Some, None}
use Rattle.std.specs.List.{list_any}
use Rattle.switch_paths.specs.declared.switching.Switch.{Switch}
use Rattle.switch_paths.specs.declared.TheConstants.{GND, VDD, RAILS}
use Rattle.switch_paths.specs.Graphs.{GraphData, level_of, is_storage_level, place_at}
use Rattle.group_meaning.specs.Groups.{Group, id_of}
use Rattle.group_text.specs.Texts.{size_fault}
use Rattle.circuit_lint.specs.declared.sides.Sides.{Sides}
use Rattle.circuit_lint.specs.declared.sides.SideFault.{SideFault}
use Rattle.circuit_lint.specs.declared.sides.SideFault.TheVariants.{Undriven, NeverOne, NeverZero, Wide}
use Rattle.circuit_lint.specs.Nodes.{has_end}

-- an input node other than a rail
abbrev pub is_other_input : GraphData → ℕ → Bool
is_other_input g node = nat_le RAILS node && not (is_storage_level (level_of g node))

-- a switch stands at a place, with an end at such a node
abbrev pub has_input_end : GraphData → Option Switch → Bool
has_input_end g None = false
has_input_end g (Some switch) = is_other_input g switch.a || is_other_input g switch.b

-- some switch at these places has an end at the node
abbrev pub ends_at : GraphData → ℕ → List ℕ → Bool
ends_at g node places = list_any (λ place. has_end node (place_at g.places place)) places

-- some switch at these places has an end at an input node other than a rail
abbrev pub ends_at_input : GraphData → List ℕ → Bool
ends_at_input g places = list_any (λ place. has_input_end g (place_at g.places place)) places

-- of a group its least node, how many nodes and switches it has, and whether some switch of it has an end at Gnd, at Vdd, and at another
-- input node
abbrev pub sides_of : GraphData → Group → Sides
sides_of g group = record {
  node = id_of group;
  nodes = length group.members;
  switches = length group.switches;
  gnd = ends_at g GND group.switches;
  vdd = ends_at g VDD group.switches;
  other = ends_at_input g group.switches;
}

-- a group of two nodes and more is undriven with no input node at the ends of its switches; it is never one with Gnd alone there, and never
-- zero with Vdd alone; it is wide if it is too large for a text
abbrev pub shows : SideFault → Sides → Bool
shows Undriven sides = nat_lt 1 sides.nodes && not (sides.gnd || (sides.vdd || sides.other))
shows NeverOne sides = sides.gnd && not (sides.vdd || sides.other)
shows NeverZero sides = sides.vdd && not (sides.gnd || sides.other)
shows Wide sides = is_some (size_fault sides.nodes sides.switches)

-- those of these groups that show a fault
abbrev pub showing : SideFault → GraphData → List Group → List Sides
showing fault g groups = filter (shows fault) (map (sides_of g) groups)
