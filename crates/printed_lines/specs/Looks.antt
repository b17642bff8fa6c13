-- The lines of a look at a node: what it is, the transistors with an end at it, and those that it is the gate of. Each ends with LF.
use Rattle.std.specs.Prelude.{ℕ, List, [], ◌∷◌, ◌++◌, codes, decimal}
use Rattle.ternary.specs.declared.tern.Tern.{Tern}
use Rattle.ternary.specs.Tern.{letter}
use Rattle.switch_paths.specs.declared.switching.SwitchKind.{SwitchKind}
use Rattle.switch_paths.specs.declared.switching.SwitchKind.TheVariants.{NChan, PChan, Always}
use Rattle.switch_paths.specs.declared.switching.SwitchState.{SwitchState}
use Rattle.switch_paths.specs.declared.switching.SwitchState.TheVariants.{Open, Closed, Unknown}
use Rattle.printed_lines.specs.declared.looks.NodeSort.{NodeSort}
use Rattle.printed_lines.specs.declared.looks.NodeSort.TheVariants.{Rail, Input, Size}
use Rattle.printed_lines.specs.declared.looks.SwitchTold.{SwitchTold}

-- the letter of a kind
abbrev pub kind_text : SwitchKind → List ℕ
kind_text NChan = codes "n"
kind_text PChan = codes "p"
kind_text Always = codes "d"

-- what a switch does
abbrev pub switch_state_text : SwitchState → List ℕ
switch_state_text Open = codes "open"
switch_state_text Closed = codes "closed"
switch_state_text Unknown = codes "unknown"

-- what a node is: `rail`, `input` or `size:<size>`
abbrev pub sort_text : NodeSort → List ℕ
sort_text Rail = codes "rail"
sort_text Input = codes "input"
sort_text (Size size) = codes "size:" ++ decimal size

-- a transistor: `<number> <kind> <strength> <switch>`
abbrev pub switch_text : SwitchTold → List ℕ
switch_text switch =
    decimal switch.number ++ codes " " ++ kind_text switch.kind ++ codes " " ++ decimal switch.strength ++ codes " " ++ switch_state_text switch.state

-- a node: `<name> <letter>`
abbrev pub node_text : List ℕ → Tern → List ℕ
node_text name state = name ++ codes " " ++ (letter state ∷ [])

-- two nodes with a text before each, and LF
abbrev pub nodes_text : List ℕ → List ℕ → Tern → List ℕ → List ℕ → Tern → List ℕ
nodes_text before first first_state between second second_state =
    before ++ node_text first first_state ++ between ++ node_text second second_state ++ codes "\n"

-- the look line: `look <name> <letter> <what>`
abbrev pub look_line_of : List ℕ → Tern → NodeSort → List ℕ
look_line_of name state sort = codes "look " ++ node_text name state ++ codes " " ++ sort_text sort ++ codes "\n"

-- the line of a transistor with an end at the node: `at <transistor> gate <node> end <node>`
abbrev pub end_line_of : SwitchTold → List ℕ → Tern → List ℕ → Tern → List ℕ
end_line_of switch gate gate_state end end_state =
    codes "at " ++ switch_text switch ++ nodes_text (codes " gate ") gate gate_state (codes " end ") end end_state

-- the line of one that the node is the gate of: `gate <transistor> ends <node> <node>`
abbrev pub gate_line_of : SwitchTold → List ℕ → Tern → List ℕ → Tern → List ℕ
gate_line_of switch source source_state drain drain_state =
    codes "gate " ++ switch_text switch ++ nodes_text (codes " ends ") source source_state (codes " ") drain drain_state
