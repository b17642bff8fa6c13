-- How many columns a run has, by the word that tells it.
use Rattle.std.specs.Prelude.{ℕ, List, ◌&&◌, nat_le, if◌then◌else◌, Option, Some, None}
use Rattle.std.specs.Option.{option_and_then}
use Rattle.line_words.specs.Decimals.{decimal_of}
use Rattle.command_line.specs.declared.column_count.ColumnCount as code_columns

-- the number of columns that a word writes: 1 to 64
abbrev pub columns_of : List ℕ → Option ℕ
columns_of word = option_and_then (λ columns. if nat_le 1 columns && nat_le columns 64 then Some columns else None) (decimal_of word)

-- a number of columns of the code, as it is meant here
abbrev pub columns_seen : code_columns.ColumnCount → ℕ
columns_seen columns = columns.count
