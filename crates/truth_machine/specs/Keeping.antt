-- What a later machine's maker keeps of truths, whatever the machine did between.
use Rattle.std.specs.Prelude.{◌≡◌, ℕ, Bool}
use Rattle.truth_columns.specs.Columns.{AreKept}
use Rattle.truth_machine.specs.Machines.{TruthData}

-- it has all truths that the first machine's maker had, which hold where they held, and may make as much
pub record KeepsTruths {A M : Type 0} (columns : M → ℕ) (has : M → A → Type 0) (holds : M → A → ℕ → Bool) (bound : M → ℕ) (old new : TruthData A M) : Type 0 where
  pub kept : AreKept (columns old.maker) (has old.maker) (holds old.maker) (columns new.maker) (has new.maker) (holds new.maker)
  pub bounded : bound new.maker ≡ bound old.maker
