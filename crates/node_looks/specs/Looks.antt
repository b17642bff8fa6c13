-- What there is at a node: what it is, the transistors with an end at it, and those that it is the gate of.
use Rattle.std.specs.Prelude.{ℕ, ◌-◌, ◌==◌, List, ◌∷◌, ◌++◌, nat_lt, filter_map, option_map, option_and_then, Option, Some, None, if◌then◌else◌}
use Rattle.std.specs.List.{enumerate_from}
use Rattle.strength_order.specs.declared.TheConstants.{INPUT_LEVEL}
use Rattle.strength_order.specs.Levels.{level_of_strength}
use Rattle.ternary.specs.declared.tern.Tern.{Tern}
use Rattle.switch_paths.specs.Graphs.{level_of}
use Rattle.switch_paths.specs.Switching.{state_at, switch_state_at}
use Rattle.switch_paths.specs.declared.TheConstants.{RAILS}
use Rattle.switch_paths.specs.declared.switching.Switch.{Switch}
use Rattle.netlist.specs.Circuits.{CircuitData, called}
use Rattle.netlist.specs.Edits.{node_named}
use Rattle.printed_lines.specs.declared.looks.NodeSort.{NodeSort}
use Rattle.printed_lines.specs.declared.looks.NodeSort.TheVariants.{Rail, Input, Size}
use Rattle.printed_lines.specs.declared.looks.SwitchTold.{SwitchTold}
use Rattle.told_lines.specs.Lines.{Line, Looked, AtEnd, AtGate}
use Rattle.node_looks.specs.declared.lines.Terminal.{Terminal}
use Rattle.node_looks.specs.declared.lines.Terminal.TheVariants.{End, Gate}

-- what a node is; the level of a size is the size
abbrev pub sort_of : CircuitData → ℕ → NodeSort
sort_of c node = if nat_lt node RAILS then Rail else (if level_of c.graph node == INPUT_LEVEL then Input else Size (level_of c.graph node))

-- what is told of the transistor with this number: its strength goes by its level, and its switch by the state of its gate
abbrev pub switch_told : List Tern → ℕ → Switch → SwitchTold
switch_told state number switch = record {
  number = number;
  kind = switch.kind;
  strength = switch.level - level_of_strength 0;
  state = switch_state_at state switch;
}

-- the node at its other end, if it has an end at this one: the node itself if both ends are there
abbrev pub other_end : ℕ → Switch → Option ℕ
other_end node switch = if switch.a == node then Some switch.b else (if switch.b == node then Some switch.a else None)

-- the line of a transistor with this number whose other end is this one
abbrev pub at_end : CircuitData → List Tern → ℕ → Switch → ℕ → Line
at_end c state number switch other =
    AtEnd (switch_told state number switch) (called c switch.gate) (state_at state switch.gate) (called c other) (state_at state other)

-- the line of one with its ends
abbrev pub at_gate : CircuitData → List Tern → ℕ → Switch → Line
at_gate c state number switch =
    AtGate (switch_told state number switch) (called c switch.a) (state_at state switch.a) (called c switch.b) (state_at state switch.b)

-- the line of the transistor with this number, if this terminal of it is at the node
abbrev pub switch_line : Terminal → CircuitData → List Tern → ℕ → ℕ → Switch → Option Line
switch_line End c state node number switch = option_map (at_end c state number switch) (other_end node switch)
switch_line Gate c state node number switch = if switch.gate == node then Some (at_gate c state number switch) else None

-- the line of what stands under a number, if it is a transistor with this terminal at the node
abbrev pub line_at : Terminal → CircuitData → List Tern → ℕ → ℕ × Option Switch → Option Line
line_at terminal c state node (number, place) = option_and_then (switch_line terminal c state node number) place

-- if it is one with an end at the node
abbrev pub end_line : CircuitData → List Tern → ℕ → ℕ × Option Switch → Option Line
end_line = line_at End

-- if it is one that the node is the gate of
abbrev pub gate_line : CircuitData → List Tern → ℕ → ℕ × Option Switch → Option Line
gate_line = line_at Gate

-- what stands at each place, under its number
abbrev pub numbered : CircuitData → List (ℕ × Option Switch)
numbered c = enumerate_from 1 c.graph.places

-- the line of a node
abbrev pub node_line : CircuitData → List Tern → ℕ → Line
node_line c state node = Looked (called c node) (state_at state node) (sort_of c node)

-- the lines of the transistors with this terminal at a node, by their numbers
abbrev pub lines_at : Terminal → CircuitData → List Tern → ℕ → List Line
lines_at terminal c state node = filter_map (line_at terminal c state node) (numbered c)

-- of those with an end at it
abbrev pub end_lines : CircuitData → List Tern → ℕ → List Line
end_lines = lines_at End

-- of those that it is the gate of
abbrev pub gate_lines : CircuitData → List Tern → ℕ → List Line
gate_lines = lines_at Gate

-- the lines of a node: its own, and those of the transistors at it
abbrev pub node_lines : CircuitData → List Tern → ℕ → List Line
node_lines c state node = node_line c state node ∷ (end_lines c state node ++ gate_lines c state node)

-- the lines of a name
abbrev pub looked_lines : CircuitData → List Tern → List ℕ → List Line
looked_lines c state name = node_lines c state (node_named c name)
