-- Sound columns: of one column what holds of the first holds of each; and they stay sound if their states stay.
use Rattle.std.proofs.Common.{◌≡◌, ℕ, ◌<◌, ◌≤◌, List, sym, subst, arith}
use Rattle.ternary.specs.declared.tern.Tern.{Tern}
use Rattle.switch_paths.specs.Graphs.{GraphData}
use Rattle.column_stage.specs.Columns.{AreSound, IsSoundState}

-- if the first column is sound, each is
pub sound_alone : (g : GraphData) (columns : ℕ) (states : ℕ → List Tern) → columns ≡ 1 → IsSoundState g (states 0) → AreSound g columns states
sound_alone g columns states one sound = λ column inside.
    let first : 0 ≡ column = omega (arith, one, inside) in
    subst (λ (n : ℕ). IsSoundState g (states n)) first sound

-- there is a first column
pub first_inside : (columns : ℕ) → columns ≡ 1 → 0 < columns
first_inside columns one = omega (arith, one)

-- and if there is some
pub first_of_some : (columns : ℕ) → 1 ≤ columns → 0 < columns
first_of_some columns some = omega (arith, some)

-- of one column there is some
pub some_alone : (columns : ℕ) → columns ≡ 1 → 1 ≤ columns
some_alone columns one = omega (arith, one)

-- columns stay sound if their states stay
pub sound_still : {M : Type 0} (columns : M → ℕ) (states : M → ℕ → List Tern) (g : GraphData) (old new : M) → columns new ≡ columns old →
    ((column : ℕ) → column < columns old → states new column ≡ states old column) → AreSound g (columns old) (states old) →
    AreSound g (columns new) (states new)
sound_still columns states g old new count same sound = λ column inside.
    let within : column < columns old = subst (λ (n : ℕ). column < n) count inside in
    subst (λ (state : List Tern). IsSoundState g state) (sym (same column within)) (sound column within)
