-- Switches that do nothing: never closed, or with one node at both ends. Alike ones are told of together.
use Rattle.std.specs.Prelude.{ℕ, min, max, Bool, false, not, ◌&&◌, ◌||◌, ◌==◌, List, length, take, filter_map, count_by, Option, Some, None, if◌then◌else◌}
use Rattle.std.specs.List.{list_any, range_with_len}
use Rattle.strength_order.specs.declared.TheConstants.{LEAST_SWITCH_LEVEL}
use Rattle.switch_paths.specs.declared.switching.Switch.{Switch}
use Rattle.switch_paths.specs.contracts.switching.SwitchPartialEq.TheImpl as switches
use Rattle.switch_paths.specs.Graphs.{GraphData, place_at}
use Rattle.circuit_lint.specs.declared.counted.Counted.{Counted}
use Rattle.circuit_lint.specs.Conducting.{is_never_closed}

-- the switch does nothing
abbrev pub is_dead : Switch → Bool
is_dead switch = is_never_closed switch || (switch.a == switch.b)

-- a switch without its strength and the order of its ends: its kind, its gate, and its ends in ascending order
abbrev pub likeness : Switch → Switch
likeness switch = record {
  kind = switch.kind;
  level = LEAST_SWITCH_LEVEL;
  gate = switch.gate;
  a = min switch.a switch.b;
  b = max switch.a switch.b;
}

-- two switches are the same
abbrev pub same_switch : Switch → Switch → Bool
same_switch = switches.eq-value.it

-- a dead switch stands at a place, of this kind, with this gate and these two ends in either order
abbrev pub is_dead_like : Switch → Option Switch → Bool
is_dead_like alike None = false
is_dead_like alike (Some switch) = is_dead switch && same_switch (likeness switch) alike

-- a dead switch stands at a place, and none of these others is alike
abbrev pub is_first_dead : List (Option Switch) → Option Switch → Bool
is_first_dead others None = false
is_first_dead others (Some switch) = is_dead switch && not (list_any (is_dead_like (likeness switch)) others)

-- at the place stands the first of a set of dead switches that are alike
abbrev pub is_dead_at : GraphData → ℕ → Bool
is_dead_at g place = is_first_dead (take place g.places) (place_at g.places place)

-- how many dead switches are alike with the one at a place, itself among them
abbrev pub alike_count : GraphData → Option Switch → ℕ
alike_count g None = 0
alike_count g (Some switch) = count_by (is_dead_like (likeness switch)) g.places

-- what there is to tell of a place, if it is the first of a set: how many they are
abbrev pub dead_at : GraphData → ℕ → Option Counted
dead_at g place = if is_dead_at g place then Some (record { number = place; count = alike_count g (place_at g.places place) }) else None

-- each set of dead switches that are alike, by the place of its first
abbrev pub dead_of : GraphData → List Counted
dead_of g = filter_map (dead_at g) (range_with_len 0 (length g.places))
