-- How the words of a line with values are read for all columns at once.
use Rattle.std.specs.Prelude.{ℕ, Bool, ◌==◌, ◌||◌, List, [], ◌∷◌, length, codes, bytes_eq, Option, Some, None, Result, Err, if◌then◌else◌}
use Rattle.std.specs.Option.{ok_or, option_and_then}
use Rattle.ternary.specs.declared.tern.Tern.{Tern}
use Rattle.script_lang.specs.declared.command.ScriptFault.{ScriptFault}
use Rattle.script_lang.specs.declared.command.ScriptFault.TheVariants.{FewWords, BadValue}
use Rattle.script_lang.specs.Parts.{all_of, beats_of}
use Rattle.column_script.specs.declared.command.ValueCommand.TheVariants as value
use Rattle.column_script.specs.declared.reader.Sort.{Sort}
use Rattle.column_script.specs.declared.reader.Sort.TheVariants as sort
use Rattle.column_script.specs.Columns.{is_left_out}

-- the sort of the command that a word names
abbrev pub sort_of : List ℕ → Sort
sort_of verb =
    if bytes_eq verb (codes "set") then sort.Valued value.Set
    else (if bytes_eq verb (codes "charge") then sort.Valued value.Charge
    else (if is_left_out verb then sort.LeftOut else sort.Shared))

-- the states are one for all columns, or one for each
abbrev pub are_fit : ℕ → List Tern → Bool
are_fit columns states = (length states == 1) || (length states == columns)

-- a value is a word `name=v`, or `name=vvv..` with a letter for each column
abbrev pub column_value_of : ℕ → List ℕ → Option (List ℕ × List Tern)
column_value_of columns word = option_and_then (λ value. if are_fit columns value.1 then Some value else None) (beats_of word)

-- one value or more
abbrev pub values_given : ℕ → List (List ℕ) → Result (List (List ℕ × List Tern)) ScriptFault
values_given columns [] = Err FewWords
values_given columns (word ∷ words) = ok_or (all_of (column_value_of columns) (word ∷ words)) BadValue
