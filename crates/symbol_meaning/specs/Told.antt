-- The lines that a symbolic script tells, of all valuations together, as values, and their texts. Each ends with LF.
use Rattle.std.specs.Prelude.{ℕ, Bool, true, false, List, [], ◌∷◌, ◌++◌, length, map, filter, zip, codes, decimal, nat_le, Option, Some, None, if◌then◌else◌}
use Rattle.std.specs.List.{flat_map}
use Rattle.ternary.specs.declared.tern.Tern.{Tern}
use Rattle.ternary.specs.Tern.{letter}
use Rattle.switch_paths.specs.declared.switching.SwitchKind.{SwitchKind}
use Rattle.switch_paths.specs.declared.switching.SwitchState.{SwitchState}
use Rattle.printed_lines.specs.declared.looks.NodeSort.{NodeSort}
use Rattle.printed_lines.specs.Lines.{mark_of}
use Rattle.printed_lines.specs.Looks.{kind_text, sort_text, switch_state_text}

-- a transistor that is looked at: its number, its kind and its strength, and the state of its switch that it has under all valuations, if it has one
pub record SwitchOfAll : Type 0 where
  pub number : ℕ
  pub kind : SwitchKind
  pub strength : ℕ
  pub state : Option SwitchState

-- a waveform line: its number, the greatest number of steps of a valuation, whether some valuation joined, and of each watched node the state that
-- it has under all valuations, if it has one; an expectation that isn't met under some valuation: the name, the value that is told as the wanted
-- one, and under the first such valuation the states of the name's nodes, the number of waveform lines so far and the truth values of the
-- variables; and as in a plain script what is shown of a name, what there is at a node that is looked at, of a transistor with an end there, and of
-- one that it is the gate of
pub data SymbolTold : Type 0 where
  Wave : ℕ → ℕ → Bool → List (Option Tern) → SymbolTold
  Unmet : List ℕ → List ℕ → List Tern → ℕ → List Bool → SymbolTold
  Shown : List ℕ → List (Option Tern) → SymbolTold
  Looked : List ℕ → Option Tern → NodeSort → SymbolTold
  AtEnd : SwitchOfAll → List ℕ → Option Tern → List ℕ → Option Tern → SymbolTold
  AtGate : SwitchOfAll → List ℕ → Option Tern → List ℕ → Option Tern → SymbolTold

-- the line is of an expectation that isn't met
abbrev pub is_unmet : SymbolTold → Bool
is_unmet (Unmet name wanted got n truths) = true
is_unmet other = false

-- ---- texts

-- the letter that a node has under all valuations, and `?` where two of them differ
abbrev pub letter_of_all : Option Tern → ℕ
letter_of_all None = 63
letter_of_all (Some state) = letter state

-- one for each node, in order and without blanks; `-` if there is no node
abbrev pub letters_of_all : List (Option Tern) → List ℕ
letters_of_all [] = codes "-"
letters_of_all (own ∷ others) = map letter_of_all (own ∷ others)

-- what a switch does under all valuations, or `?`
abbrev pub switch_of_all : Option SwitchState → List ℕ
switch_of_all None = codes "?"
switch_of_all (Some state) = switch_state_text state

-- a transistor: `<number> <kind> <strength> <switch>`
abbrev pub switch_text : SwitchOfAll → List ℕ
switch_text switch =
    decimal switch.number ++ codes " " ++ kind_text switch.kind ++ codes " " ++ decimal switch.strength ++ codes " " ++ switch_of_all switch.state

-- a node: `<name> <letter>`
abbrev pub node_text : List ℕ → Option Tern → List ℕ
node_text name state = name ++ codes " " ++ (letter_of_all state ∷ [])

-- two nodes with a text before each, and LF
abbrev pub nodes_text : List ℕ → List ℕ → Option Tern → List ℕ → List ℕ → Option Tern → List ℕ
nodes_text before first first_state between second second_state =
    before ++ node_text first first_state ++ between ++ node_text second second_state ++ codes "\n"

-- a variable with its truth value: ` $<name>=0` or ` $<name>=1`
abbrev pub truth_digit : Bool → List ℕ
truth_digit true = codes "1"
truth_digit false = codes "0"

abbrev pub variable_text : List ℕ × Bool → List ℕ
variable_text own = codes " $" ++ own.0 ++ codes "=" ++ truth_digit own.1

-- those that are 1, or ` -` if none is
abbrev pub ones_text : List (List ℕ × Bool) → List ℕ
ones_text [] = codes " -"
ones_text (own ∷ others) = flat_map variable_text (own ∷ others)

-- how many variables are all told
abbrev pub most_told : ℕ
most_told = 64

-- a valuation: all variables in order, if there are up to 64, and else those that are 1
abbrev pub valuation_text : List (List ℕ × Bool) → List ℕ
valuation_text all = if nat_le (length all) most_told then flat_map variable_text all else ones_text (filter (λ own. own.1) all)

-- ` where` and a valuation; without variables nothing
abbrev pub where_text : List (List ℕ × Bool) → List ℕ
where_text [] = []
where_text (own ∷ others) = codes " where" ++ valuation_text (own ∷ others)

-- the text of a line, by the names of the variables
abbrev pub told_text : List (List ℕ) → SymbolTold → List ℕ
told_text variables (Wave n k mark letters) = decimal n ++ codes " " ++ decimal k ++ mark_of mark ++ codes " " ++ letters_of_all letters ++ codes "\n"
told_text variables (Unmet name wanted got n truths) =
    codes "expect " ++ name ++ codes "=" ++ wanted ++ codes " got " ++ map letter got ++ codes " after " ++ decimal n ++ where_text (zip variables truths) ++ codes "\n"
told_text variables (Shown name letters) = codes "show " ++ name ++ codes " " ++ letters_of_all letters ++ codes "\n"
told_text variables (Looked name state sort) = codes "look " ++ node_text name state ++ codes " " ++ sort_text sort ++ codes "\n"
told_text variables (AtEnd switch gate gate_state end end_state) =
    codes "at " ++ switch_text switch ++ nodes_text (codes " gate ") gate gate_state (codes " end ") end end_state
told_text variables (AtGate switch source source_state drain drain_state) =
    codes "gate " ++ switch_text switch ++ nodes_text (codes " ends ") source source_state (codes " ") drain drain_state

-- the text of lines, one after the other
abbrev pub texts_told : List (List ℕ) → List SymbolTold → List ℕ
texts_told variables told = flat_map (told_text variables) told
