-- Words of a node that are placed from outside.
use Rattle.std.specs.Prelude.{◌≡◌, ℕ, slice_set}
use Rattle.machine_parts.specs.Marking.{MarksAll}
use Rattle.machine_parts.specs.Stepping.{Concerns}
use Rattle.column_machines.specs.Columns.{WordData}

-- a node has these words, the parts that it concerns are marked, and all else stays
pub record PlacesWords (node hi lo : ℕ) (old new : WordData) : Type 0 where
  pub highs : new.hi ≡ slice_set old.hi node hi
  pub lows : new.lo ≡ slice_set old.lo node lo
  pub marks : MarksAll (λ k. Concerns old.machine.parts k node) old.marks new.marks
  pub columns : new.columns ≡ old.columns
  pub machine : new.machine ≡ old.machine
