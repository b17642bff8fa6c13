-- The columns of a script: what a line is in each of them. A column's line is the script's, where each value with a letter for each
-- column is that column's letter; the first letter is that of the first column. A value goes to a node, and to no vector.
use Rattle.std.specs.Prelude.{ℕ, Bool, ◌==◌, ◌&&◌, ◌||◌, List, [], ◌∷◌, ◌++◌, length, map, codes, bytes_eq, slice_index, Option, Some, None, is_some, Result, Ok, Err, if◌then◌else◌}
use Rattle.std.specs.Option.{ok_or, option_map_or}
use Rattle.line_words.specs.declared.line_check.LineFault.{LineFault}
use Rattle.line_words.specs.declared.line_check.LineFault.TheVariants as of_line
use Rattle.line_words.specs.LineFaults.{line_fault, is_comment}
use Rattle.line_words.specs.Words.{words_of}
use Rattle.ternary.specs.declared.tern.Tern.{Tern}
use Rattle.script_lang.specs.declared.command.Command.{Command}
use Rattle.script_lang.specs.declared.command.Command.TheVariants as family
use Rattle.script_lang.specs.declared.command.ScriptFault.{ScriptFault}
use Rattle.script_lang.specs.declared.command.ScriptFault.TheVariants.{LineTooLong, BadByte, BadCommand, FewWords, BadValue}
use Rattle.script_lang.specs.Parts.{all_of, equals, letter_of, parts_of, states_of}
use Rattle.script_lang.specs.Commands.{commanded, reading_of_words, some_command}
use Rattle.column_script.specs.declared.command.ValueCommand.{ValueCommand}
use Rattle.column_script.specs.declared.command.ValueCommand.TheVariants as value
use Rattle.column_script.specs.Commands.{plain_of}

-- the command that gives nodes values, if the verb is that of one
abbrev pub value_verb : List ℕ → Option ValueCommand
value_verb verb =
    if bytes_eq verb (codes "set") then Some value.Set else (if bytes_eq verb (codes "charge") then Some value.Charge else None)

-- a script of columns has no such command
abbrev pub is_left_out : List ℕ → Bool
is_left_out verb =
    bytes_eq verb (codes "expect") || bytes_eq verb (codes "show") || bytes_eq verb (codes "look") || bytes_eq verb (codes "save") || bytes_eq verb (codes "back")
    || bytes_eq verb (codes "report") || bytes_eq verb (codes "keep")

-- letters of states, one for each column
abbrev pub are_of_columns : ℕ → List ℕ → Bool
are_of_columns columns letters = is_some (states_of letters) && (length letters == columns)

-- a word with these parts in a column: if its letters are those of the columns, the name with the letter of this one
abbrev pub parts_in : ℕ → ℕ → List ℕ → List ℕ × List ℕ → List ℕ
parts_in columns column word parts = if are_of_columns columns parts.1 then parts.0 ++ equals ∷ slice_index parts.1 column ∷ [] else word

-- a word in a column
abbrev pub word_in : ℕ → ℕ → List ℕ → List ℕ
word_in columns column word = option_map_or (parts_in columns column word) (parts_of word) word

-- one letter of a node or more
abbrev pub letters_given : List (List ℕ) → Result (List (List ℕ × Tern)) ScriptFault
letters_given [] = Err FewWords
letters_given (word ∷ words) = ok_or (all_of letter_of (word ∷ words)) BadValue

-- what a verb's words are in a column: if the verb gives values, those of the column, else the words of a plain script
abbrev pub words_by_verb : ℕ → ℕ → List ℕ → List (List ℕ) → Option ValueCommand → Result (Option Command) ScriptFault
words_by_verb columns column verb words (Some command) =
    some_command (commanded family.Give (commanded (plain_of command) (letters_given (map (word_in columns column) words))))
words_by_verb columns column verb words None = reading_of_words (verb ∷ words)

-- what the words of a line are in a column
abbrev pub column_reading : ℕ → ℕ → List (List ℕ) → Result (Option Command) ScriptFault
column_reading columns column [] = Ok None
column_reading columns column (verb ∷ words) = if is_left_out verb then Err BadCommand else words_by_verb columns column verb words (value_verb verb)

-- a line, by its fault as a line of any text; a comment asks for nothing
abbrev pub column_reading_by : ℕ → ℕ → List ℕ → Option LineFault → Result (Option Command) ScriptFault
column_reading_by columns column line (Some of_line.TooLong) = Err LineTooLong
column_reading_by columns column line (Some of_line.BadByte) = Err BadByte
column_reading_by columns column line None = if is_comment line then Ok None else column_reading columns column (words_of line)

-- what a line of a script is in a column: a command of a plain script, nothing to do, or refused
abbrev pub column_reading_of : ℕ → ℕ → List ℕ → Result (Option Command) ScriptFault
column_reading_of columns column line = column_reading_by columns column line (line_fault line)
