-- The printed lines that tell no fault: waveform, expect, show, report, check, group and summary. Each ends with LF.
use Rattle.std.specs.Prelude.{ℕ, Bool, true, false, List, [], ◌∷◌, ◌++◌, map, codes, decimal, Option, Some, None}
use Rattle.ternary.specs.declared.tern.Tern.{Tern}
use Rattle.ternary.specs.Tern.{letter}
use Rattle.printed_lines.specs.declared.lines.Summary.{Summary}

-- the mark of a phase: `*`, or nothing
abbrev pub mark_of : Bool → List ℕ
mark_of true = codes "*"
mark_of false = []

-- one letter for each state, in order and without blanks; `-` if there is no state
abbrev pub values_of : List Tern → List ℕ
values_of [] = codes "-"
values_of (value ∷ values) = map letter (value ∷ values)

-- the waveform line: `<n> <k><mark> <values>`
abbrev pub wave_line_of : ℕ → ℕ → Bool → List Tern → List ℕ
wave_line_of n k mark values =
    decimal n ++ codes " " ++ decimal k ++ mark_of mark ++ codes " " ++ values_of values ++ codes "\n"

-- the report line: `groups <groups> texts <texts> new <new>`
abbrev pub report_line_of : ℕ → ℕ → ℕ → List ℕ
report_line_of groups texts new =
    codes "groups " ++ decimal groups ++ codes " texts " ++ decimal texts ++ codes " new "
    ++ decimal new ++ codes "\n"

-- the letter of a wanted state; `-` if any state will do
abbrev pub wanted_letter : Option Tern → ℕ
wanted_letter None = 45
wanted_letter (Some state) = letter state

-- the expect line: `expect <name>=<wanted letters> got <present letters> after <n>`
abbrev pub expect_line_of : List ℕ → List (Option Tern) → List Tern → ℕ → List ℕ
expect_line_of name want got n =
    codes "expect " ++ name ++ codes "=" ++ map wanted_letter want ++ codes " got " ++ map letter got
    ++ codes " after " ++ decimal n ++ codes "\n"

-- the show line: `show <name> <values>`
abbrev pub show_line_of : List ℕ → List Tern → List ℕ
show_line_of name values = codes "show " ++ name ++ codes " " ++ values_of values ++ codes "\n"

-- the start of a column's line: `<number> `
abbrev pub column_start_of : ℕ → List ℕ
column_start_of number = decimal number ++ codes " "

-- the check line: `ok nodes <nodes> switches <switches> names <names>`
abbrev pub check_line_of : ℕ → ℕ → ℕ → List ℕ
check_line_of nodes switches names =
    codes "ok nodes " ++ decimal nodes ++ codes " switches " ++ decimal switches ++ codes " names "
    ++ decimal names ++ codes "\n"

-- the number of the text of a group; `-` if the group is too large to have one
abbrev pub text_number_of : Option ℕ → List ℕ
text_number_of None = codes "-"
text_number_of (Some number) = decimal number

-- the start of a group line: `group <number> nodes <nodes> switches <switches> text <text>:`
abbrev pub group_start_of : ℕ → ℕ → ℕ → Option ℕ → List ℕ
group_start_of number nodes switches text =
    codes "group " ++ decimal number ++ codes " nodes " ++ decimal nodes ++ codes " switches "
    ++ decimal switches ++ codes " text " ++ text_number_of text ++ codes ":"

-- names in a line, a blank before each
abbrev pub names_after : List (List ℕ) → List ℕ
names_after [] = []
names_after (name ∷ names) = codes " " ++ name ++ names_after names

-- the group line: its start, and the names of its members
abbrev pub group_line_of : ℕ → ℕ → ℕ → Option ℕ → List (List ℕ) → List ℕ
group_line_of number nodes switches text names =
    group_start_of number nodes switches text ++ names_after names ++ codes "\n"

-- how many nodes and transistors there are: ` nodes <nodes> switches <switches>`
abbrev pub circuit_of : ℕ → ℕ → List ℕ
circuit_of nodes switches = codes " nodes " ++ decimal nodes ++ codes " switches " ++ decimal switches

-- how many values have each state: ` zeros <zeros> ones <ones> unknown <unknown>`
abbrev pub states_of : ℕ → ℕ → ℕ → List ℕ
states_of zeros ones unknown = codes " zeros " ++ decimal zeros ++ codes " ones " ++ decimal ones ++ codes " unknown " ++ decimal unknown

-- what a summary tells of the waveform lines and their values: ` lines <lines> steps <steps> marks <marks>`, and the values of each state
abbrev pub waves_of : Summary → List ℕ
waves_of summary =
    codes " lines " ++ decimal summary.lines ++ codes " steps " ++ decimal summary.steps ++ codes " marks "
    ++ decimal summary.marks ++ states_of summary.zeros summary.ones summary.unknown

-- the summary line: `large`, the circuit, and the waveform lines
abbrev pub summary_line_of : Summary → List ℕ
summary_line_of summary = codes "large" ++ circuit_of summary.nodes summary.switches ++ waves_of summary ++ codes "\n"
