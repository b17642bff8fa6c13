-- Steps of a machine over truths, and rails that are placed in it from outside.
use Rattle.std.specs.Prelude.{◌≡◌, ◌≢◌, ℕ, ◌<◌, Bool, true, false, length, slice_set}
use Rattle.machine_parts.specs.Marking.{MarksAll}
use Rattle.machine_parts.specs.Stepping.{Concerns}
use Rattle.truth_parts.specs.Stepping.{StepsTo}
use Rattle.truth_machine.specs.Machines.{TruthData, column_of}

-- each column takes a step, plain or joining, and whether some column changed is told
pub record StepsColumns {A M : Type 0} (columns : M → ℕ) (holds : M → A → ℕ → Bool) (joining : Bool) (old new : TruthData A M) (moved : Bool) : Type 0 where
  pub each : (column : ℕ) → column < columns old.maker → StepsTo joining old.parts old.marks new.marks (column_of holds old column) (column_of holds new column)
  pub some : moved ≡ true → (column : ℕ) × (column < columns old.maker) × (column_of holds new column ≢ column_of holds old column)
  pub none : moved ≡ false → (column : ℕ) → column < columns old.maker → column_of holds new column ≡ column_of holds old column
  pub parts : new.parts ≡ old.parts
  pub highs : length new.hi ≡ length old.hi

-- all is as before but the maker, which has all truths that it had
pub record Rests {A M : Type 0} (old new : TruthData A M) : Type 0 where
  pub parts : new.parts ≡ old.parts
  pub marks : new.marks ≡ old.marks
  pub highs : new.hi ≡ old.hi
  pub lows : new.lo ≡ old.lo

-- a node has these rails, the parts that it concerns are marked, and all else stays
pub record PlacesTruths {A M : Type 0} (node : ℕ) (hi lo : A) (old new : TruthData A M) : Type 0 where
  pub highs : new.hi ≡ slice_set old.hi node hi
  pub lows : new.lo ≡ slice_set old.lo node lo
  pub marks : MarksAll (λ k. Concerns old.parts k node) old.marks new.marks
  pub maker : new.maker ≡ old.maker
  pub parts : new.parts ≡ old.parts
