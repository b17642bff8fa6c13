-- What the columns of a line have in common, each proved as the contract of a function in `src/laws.rt`.
use Rattle.std.specs.Prelude.{◌≡◌, ℕ, ◌<◌, List, None, Ok, Err}
use Rattle.script_lang.specs.declared.command.ScriptFault.{ScriptFault}
use Rattle.column_script.specs.Columns.{column_reading_of}

-- a line that is refused in one column is refused in each, by the same fault
abbrev pub ColumnsAreRefusedAlike : Type 0
ColumnsAreRefusedAlike =
    (columns column other : ℕ) (line : List ℕ) (fault : ScriptFault) → column < columns → other < columns →
    column_reading_of columns column line ≡ Err fault → column_reading_of columns other line ≡ Err fault

-- a line that asks for nothing in one column does so in each
abbrev pub ColumnsPassAlike : Type 0
ColumnsPassAlike =
    (columns column other : ℕ) (line : List ℕ) → column < columns → other < columns →
    column_reading_of columns column line ≡ Ok None → column_reading_of columns other line ≡ Ok None
