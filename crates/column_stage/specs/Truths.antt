-- What nodes are given in many columns at once: a letter for each column.
use Rattle.std.specs.Prelude.{◌≡◌, ℕ, ◌<◌}
use Rattle.ternary.specs.declared.tern.Tern.{Tern}

-- what was a stage's own is its own still, and is the same letter in each column; and the stage may make as much as before
pub record KeepsGiven {M A : Type 0} (columns : M → ℕ) (gives : M → A → Type 0) (letter_of : M → A → ℕ → Tern) (bound : M → ℕ) (old new : M) : Type 0 where
  pub own : (given : A) → gives old given → gives new given
  pub same : (given : A) (column : ℕ) → gives old given → column < columns old → letter_of new given column ≡ letter_of old given column
  pub bounded : bound new ≡ bound old
