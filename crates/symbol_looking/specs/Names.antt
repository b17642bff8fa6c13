-- What is told of names in all columns together: what is shown of them, and what there is at the nodes that are looked at: the line of the node, and
-- those of the transistors at it.
use Rattle.std.specs.Prelude.{ℕ, ◌-◌, ◌==◌, List, ◌∷◌, ◌++◌, map, filter_map, flat_map, option_map, option_and_then, Option, Some, None, if◌then◌else◌}
use Rattle.ternary.specs.declared.tern.Tern.{Tern}
use Rattle.strength_order.specs.Levels.{level_of_strength}
use Rattle.switch_paths.specs.Switching.{state_by}
use Rattle.switch_paths.specs.declared.switching.Switch.{Switch}
use Rattle.switch_paths.specs.declared.switching.SwitchKind.{SwitchKind}
use Rattle.switch_paths.specs.declared.switching.SwitchKind.TheVariants.{NChan, PChan, Always}
use Rattle.switch_paths.specs.declared.switching.SwitchState.{SwitchState}
use Rattle.switch_paths.specs.declared.switching.SwitchState.TheVariants.{Closed}
use Rattle.netlist.specs.Circuits.{CircuitData, called}
use Rattle.netlist.specs.Edits.{node_named}
use Rattle.node_looks.specs.Looks.{numbered, other_end, sort_of}
use Rattle.session_meaning.specs.Sessions.{HeldSession}
use Rattle.session_meaning.specs.Refusals.{nodes_named}
use Rattle.symbol_meaning.specs.Told.{SwitchOfAll, SymbolTold, Shown, Looked, AtEnd, AtGate}
use Rattle.symbol_stage.specs.Stages.{StageData}
use Rattle.symbol_looking.specs.declared.lines.Terminal.{Terminal}
use Rattle.symbol_looking.specs.declared.lines.Terminal.TheVariants.{End, Gate}
use Rattle.symbol_looking.specs.Letters.{letter_on}

-- ---- names that are shown, by the letters of all nodes

-- the line of a name
abbrev pub shown_of : CircuitData → List (List ℕ × List ℕ) → (ℕ → Option Tern) → List ℕ → SymbolTold
shown_of c vectors letters name = Shown name (map letters (nodes_named c vectors name))

-- in a session
abbrev pub shown_told : HeldSession StageData → List ℕ → SymbolTold
shown_told session name = shown_of session.core.circuit session.core.vectors (letter_on session.stage) name

-- the lines of several
abbrev pub all_shown : HeldSession StageData → List (List ℕ) → List SymbolTold
all_shown session names = map (shown_told session) names

-- ---- nodes that are looked at

-- what a switch does whose gate has this letter, if that is one thing under all valuations: a depletion transistor is closed whatever its gate is
abbrev pub switch_of_letter : Option Tern → SwitchKind → Option SwitchState
switch_of_letter (Some state) kind = Some (state_by kind state)
switch_of_letter None NChan = None
switch_of_letter None PChan = None
switch_of_letter None Always = Some Closed

-- what is told of the transistor with this number: its strength goes by its level
abbrev pub switch_told : (ℕ → Option Tern) → ℕ → Switch → SwitchOfAll
switch_told letters number switch = record {
  number = number;
  kind = switch.kind;
  strength = switch.level - level_of_strength 0;
  state = switch_of_letter (letters switch.gate) switch.kind;
}

-- the line of a transistor with this number whose other end is this one
abbrev pub end_told : CircuitData → (ℕ → Option Tern) → ℕ → Switch → ℕ → SymbolTold
end_told c letters number switch other =
    AtEnd (switch_told letters number switch) (called c switch.gate) (letters switch.gate) (called c other) (letters other)

-- the line of one with its ends
abbrev pub gate_told : CircuitData → (ℕ → Option Tern) → ℕ → Switch → SymbolTold
gate_told c letters number switch =
    AtGate (switch_told letters number switch) (called c switch.a) (letters switch.a) (called c switch.b) (letters switch.b)

-- the line of the transistor with this number, if this terminal of it is at the node
abbrev pub told_by_switch : Terminal → CircuitData → (ℕ → Option Tern) → ℕ → ℕ → Switch → Option SymbolTold
told_by_switch End c letters node number switch = option_map (end_told c letters number switch) (other_end node switch)
told_by_switch Gate c letters node number switch = if switch.gate == node then Some (gate_told c letters number switch) else None

-- the line of what stands under a number, if it is a transistor with this terminal at the node
abbrev pub told_at : Terminal → CircuitData → (ℕ → Option Tern) → ℕ → ℕ × Option Switch → Option SymbolTold
told_at terminal c letters node (number, place) = option_and_then (told_by_switch terminal c letters node number) place

-- the lines of the transistors with this terminal at a node, by their numbers
abbrev pub all_told_at : Terminal → CircuitData → (ℕ → Option Tern) → ℕ → List SymbolTold
all_told_at terminal c letters node = filter_map (told_at terminal c letters node) (numbered c)

-- the line of a node
abbrev pub node_told : CircuitData → (ℕ → Option Tern) → ℕ → SymbolTold
node_told c letters node = Looked (called c node) (letters node) (sort_of c node)

-- the lines of a node: its own, and those of the transistors at it
abbrev pub looked_at : CircuitData → (ℕ → Option Tern) → ℕ → List SymbolTold
looked_at c letters node = node_told c letters node ∷ (all_told_at End c letters node ++ all_told_at Gate c letters node)

-- the lines of the node of a name
abbrev pub looked_told : CircuitData → (ℕ → Option Tern) → List ℕ → List SymbolTold
looked_told c letters name = looked_at c letters (node_named c name)

-- those of several
abbrev pub all_looked : HeldSession StageData → List (List ℕ) → List SymbolTold
all_looked session names = flat_map (looked_told session.core.circuit (letter_on session.stage)) names
