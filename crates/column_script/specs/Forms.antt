-- Well-formed commands for so many columns.
use Rattle.std.specs.Prelude.{◌≡◌, ℕ, ◌<◌, ◌⊎◌, List, length, All}
use Rattle.ternary.specs.declared.tern.Tern.{Tern}
use Rattle.line_words.specs.Visible.{IsVisibleName}
use Rattle.script_lang.specs.Forms as form
use Rattle.column_script.specs.declared.command.ColumnCommand.{ColumnCommand}
use Rattle.column_script.specs.declared.command.ColumnCommand.TheVariants.{Values, Shared}
use Rattle.column_script.specs.Commands.{IsShared}

-- a name, and one state or one for each column
pub record IsColumnValue (columns : ℕ) (value : List ℕ × List Tern) : Type 0 where
  pub named : IsVisibleName value.0
  pub states : (length value.1 ≡ 1) ⊎ (length value.1 ≡ columns)

-- one value or more
abbrev pub AreColumnValues : ℕ → List (List ℕ × List Tern) → Type 0
AreColumnValues columns list = (0 < length list) × All (IsColumnValue columns) list

-- a command is well formed: its values have one state or one for each column, and all else is as in a plain script
abbrev pub IsFormed : ℕ → ColumnCommand → Type 0
IsFormed columns (Values command list) = AreColumnValues columns list
IsFormed columns (Shared command) = form.IsFormed command × IsShared command
