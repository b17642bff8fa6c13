-- Vicinities: the classes of storage nodes that switches join which aren't open in the present state.
-- After Bryant, "A Switch-Level Model and Simulator for MOS Digital Systems", 1984.
use Rattle.std.specs.Prelude.{ℕ, List, map, if◌then◌else◌, Option, Some, None}
use Rattle.ternary.specs.declared.tern.Tern.{Tern}
use Rattle.switch_paths.specs.declared.switching.Switch.{Switch}
use Rattle.switch_paths.specs.Switching.{is_live, switch_state_at}
use Rattle.switch_paths.specs.Graphs.{GraphData}
use Rattle.group_meaning.specs.Groups.{AreLinked, Group, IsGroup}

-- what stands at a place, but no open switch
abbrev pub live_place : List Tern → Option Switch → Option Switch
live_place state None = None
live_place state (Some switch) = if is_live (switch_state_at state switch) then Some switch else None

-- the graph without the switches that are open under a state
abbrev pub live_graph : GraphData → List Tern → GraphData
live_graph g state = record { levels = g.levels; places = map (live_place state) g.places }

-- two storage nodes are near each other if they are linked in the graph without its open switches
abbrev pub AreNear : GraphData → List Tern → ℕ → ℕ → Type 0
AreNear g state = AreLinked (live_graph g state)

-- a vicinity is a group of that graph: one class of storage nodes that are near each other, with the switches at them that aren't open
abbrev pub IsVicinity : GraphData → List Tern → Group → Type 0
IsVicinity g state = IsGroup (live_graph g state)
