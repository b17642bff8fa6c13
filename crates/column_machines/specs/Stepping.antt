-- A step of a machine of columns.
use Rattle.std.specs.Prelude.{◌≡◌, ℕ, ◌<◌, ◌≤◌, Bool, false, length}
use Rattle.word_columns.specs.Columns.{is_in_column}
use Rattle.column_machines.specs.Columns.{WordData, column_of}
use Rattle.column_machines.specs.Running.{StepsTo}

-- each column takes a step, plain or joining, and the word has the bits of those that it changes
pub record StepsColumns (joining : Bool) (old new : WordData) (changed : ℕ) : Type 0 where
  pub each : (column : ℕ) → column < old.columns → StepsTo joining old.machine.parts old.marks new.marks (column_of old column) (column_of new column) (is_in_column column changed)
  pub beyond : (column : ℕ) → old.columns ≤ column → is_in_column column changed ≡ false
  pub columns : new.columns ≡ old.columns
  pub machine : new.machine ≡ old.machine
  pub highs : length new.hi ≡ length old.hi
  pub lows : length new.lo ≡ length old.lo
