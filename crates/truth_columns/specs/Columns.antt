-- Truths as their values in columns.
use Rattle.std.specs.Prelude.{◌≡◌, ℕ, ◌<◌, Bool, List, map}
use Rattle.ternary.specs.declared.tern.Tern.{Tern}
use Rattle.ternary.specs.Tern.{may_one, may_zero}

-- the values of truths in a column
abbrev pub values_in : {A : Type 0} → (A → ℕ → Bool) → ℕ → List A → List Bool
values_in holds column truths = map (λ truth. holds truth column) truths

-- a later maker has all truths that there were, and they hold where they held
pub record AreKept {A : Type 0} (columns : ℕ) (has : A → Type 0) (holds : A → ℕ → Bool) (later_columns : ℕ) (later_has : A → Type 0) (later_holds : A → ℕ → Bool) : Type 0 where
  pub count : later_columns ≡ columns
  pub there : (truth : A) → has truth → later_has truth
  pub stays : (truth : A) (column : ℕ) → has truth → column < columns → later_holds truth column ≡ holds truth column

-- in this column the truths are the rails of these states, "may be 1" and "may be 0"; X has both
pub record HasColumn {A : Type 0} (holds : A → ℕ → Bool) (column : ℕ) (hi lo : List A) (states : List Tern) : Type 0 where
  pub ones : values_in holds column hi ≡ map may_one states
  pub zeros : values_in holds column lo ≡ map may_zero states
