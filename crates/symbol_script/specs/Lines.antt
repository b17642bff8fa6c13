-- The lines of a symbolic script, which leaves bits open: what a line asks for, if anything, and why it is refused. They are those of a plain
-- script, but that `set`, `charge` and `expect` are given values with formulas, that three commands are there besides, which say of names, and that
-- `report`, `keep` and `wide` are none.
use Rattle.std.specs.Prelude.{ℕ, Bool, true, false, ◌&&◌, ◌||◌, List, [], ◌∷◌, map, codes, bytes_eq, Option, Some, None, option_map, Result, Ok, Err, if◌then◌else◌}
use Rattle.std.specs.Option.{ok_or, option_and_then}
use Rattle.line_words.specs.declared.line_check.LineFault.{LineFault}
use Rattle.line_words.specs.declared.line_check.LineFault.TheVariants as of_line
use Rattle.line_words.specs.LineFaults.{line_fault, is_comment}
use Rattle.line_words.specs.Words.{words_of}
use Rattle.script_lang.specs.declared.command.Command.{Command}
use Rattle.script_lang.specs.declared.command.ScriptFault.{ScriptFault}
use Rattle.script_lang.specs.declared.command.ScriptFault.TheVariants.{LineTooLong, BadByte, BadCommand, FewWords, BadValue}
use Rattle.script_lang.specs.Parts.{all_of, parts_of}
use Rattle.script_lang.specs.Commands.{reading_of_words}
use Rattle.symbol_lines.specs.declared.commands.SymbolCommand.{SymbolCommand}
use Rattle.symbol_lines.specs.declared.values.SymbolValue.{SymbolValue}
use Rattle.symbol_lines.specs.Items.{symbol_value_of}
use Rattle.symbol_lines.specs.Commands.{symbol_command_of}
use Rattle.symbol_lines.specs.Names.{LineData, line_of, line_of_command, line_of_values}
use Rattle.symbol_script.specs.declared.line.Assignment.{Assignment}
use Rattle.symbol_script.specs.declared.line.SymbolLine.{SymbolLine}
use Rattle.symbol_script.specs.declared.line.SymbolLine.TheVariants as line
use Rattle.symbol_script.specs.declared.line.ValueVerb.{ValueVerb}
use Rattle.symbol_script.specs.declared.line.ValueVerb.TheVariants.{Set, Charge, Expect}

-- the command that is given values, if the verb is that of one
abbrev pub value_verb : List ℕ → Option ValueVerb
value_verb verb =
    if bytes_eq verb (codes "set") then Some Set
    else (if bytes_eq verb (codes "charge") then Some Charge
    else (if bytes_eq verb (codes "expect") then Some Expect else None))

-- among the letters that it is given `-` may stand
abbrev pub has_dashes : ValueVerb → Bool
has_dashes Set = false
has_dashes Charge = false
has_dashes Expect = true

-- the command tells of what is there: a script that is run on two circuits to compare them is quiet, and has none such
abbrev pub is_telling : List ℕ → Bool
is_telling verb = bytes_eq verb (codes "expect") || bytes_eq verb (codes "show") || bytes_eq verb (codes "look")

-- a symbolic script has no such command
abbrev pub is_left_out : Bool → List ℕ → Bool
is_left_out quiet verb =
    bytes_eq verb (codes "report") || bytes_eq verb (codes "keep") || bytes_eq verb (codes "wide") || (quiet && is_telling verb)

-- the assignment of a word's parts, a name and the text of a value
abbrev pub assignment_by : List ℕ × List ℕ → SymbolValue → Assignment
assignment_by parts value = record { name = parts.0; text = parts.1; value = value }

-- an assignment is a word `name=value`, cut at its last `=`
abbrev pub assignment_of : Bool → List ℕ → Option Assignment
assignment_of dashes word =
    option_and_then (λ parts. option_map (assignment_by parts) (symbol_value_of dashes parts.1)) (parts_of word)

-- one assignment or more
abbrev pub assignments_given : Bool → List (List ℕ) → Result (List Assignment) ScriptFault
assignments_given dashes [] = Err FewWords
assignments_given dashes (word ∷ words) = ok_or (all_of (assignment_of dashes) (word ∷ words)) BadValue

-- what a line asks for by one thing that was given, or the fault
abbrev pub asked_by : {X : Type 0} → (X → SymbolLine) → Result X ScriptFault → Result (Option SymbolLine) ScriptFault
asked_by asks (Ok given) = Ok (Some (asks given))
asked_by asks (Err fault) = Err fault

-- and by a command of a plain script
abbrev pub asked_plain : Result (Option Command) ScriptFault → Result (Option SymbolLine) ScriptFault
asked_plain (Ok found) = Ok (option_map line.Plain found)
asked_plain (Err fault) = Err fault

-- what a verb's words ask for, if the verb is one of those that say of names, else as in a plain script
abbrev pub by_names : List ℕ → List (List ℕ) → Option (Result SymbolCommand ScriptFault) → Result (Option SymbolLine) ScriptFault
by_names verb words (Some command) = asked_by line.Names command
by_names verb words None = asked_plain (reading_of_words (verb ∷ words))

-- if the verb is given values, they are its assignments
abbrev pub by_verb : List ℕ → List (List ℕ) → Option ValueVerb → Result (Option SymbolLine) ScriptFault
by_verb verb words (Some command) = asked_by (line.Values command) (assignments_given (has_dashes command) words)
by_verb verb words None = by_names verb words (symbol_command_of verb words)

-- what the words of a line ask for
abbrev pub asked_by_words : Bool → List (List ℕ) → Result (Option SymbolLine) ScriptFault
asked_by_words quiet [] = Ok None
asked_by_words quiet (verb ∷ words) = if is_left_out quiet verb then Err BadCommand else by_verb verb words (value_verb verb)

-- a line, by its fault as a line of any text; a comment asks for nothing
abbrev pub asked_by_line : Bool → List ℕ → Option LineFault → Result (Option SymbolLine) ScriptFault
asked_by_line quiet bytes (Some of_line.TooLong) = Err LineTooLong
asked_by_line quiet bytes (Some of_line.BadByte) = Err BadByte
asked_by_line quiet bytes None = if is_comment bytes then Ok None else asked_by_words quiet (words_of bytes)

-- what a line of a symbolic script, quiet or not, asks for: something, nothing, or it is refused. The cases stand in the order in which one
-- refusal wins
abbrev pub symbol_reading_of : Bool → List ℕ → Result (Option SymbolLine) ScriptFault
symbol_reading_of quiet bytes = asked_by_line quiet bytes (line_fault bytes)

-- what a line says of names: those that its formulas and `variables` use, from left to right, and the one that `let` defines
abbrev pub names_of_asked : SymbolLine → LineData
names_of_asked (line.Values command list) = line_of_values (map (λ (own : Assignment). own.value) list)
names_of_asked (line.Names command) = line_of_command command
names_of_asked (line.Plain command) = line_of [] None

abbrev pub names_of_line : Option SymbolLine → LineData
names_of_line None = line_of [] None
names_of_line (Some asked) = names_of_asked asked
