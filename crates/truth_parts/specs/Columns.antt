-- The states of columns, by two lists of truths: "may be 1" and "may be 0"; X has both.
use Rattle.std.specs.Prelude.{◌≡◌, ℕ, ◌<◌, ◌||◌, Bool, true, false, List, length, map, zip, slice_index_or}
use Rattle.ternary.specs.declared.tern.Tern.{Tern}
use Rattle.ternary.specs.declared.tern.Tern.TheVariants.{Zero, One, Unk}
use Rattle.truth_columns.specs.Columns.{values_in, HasColumn}

-- a node's rail in a column; past the end of the list there is none
abbrev pub rail_in : {A : Type 0} → (A → ℕ → Bool) → ℕ → List A → ℕ → Bool
rail_in holds column truths node = slice_index_or (values_in holds column truths) node false

-- the state with these rails, "may be 1" first; if neither is there, there is none, and X stands for it
abbrev pub state_with : Bool → Bool → Tern
state_with false false = Unk
state_with false true = Zero
state_with true false = One
state_with true true = Unk

-- the states with these rails
abbrev pub state_of : Bool × Bool → Tern
state_of (one, other) = state_with one other

abbrev pub states_of : List Bool → List Bool → List Tern
states_of ones zeros = map state_of (zip ones zeros)

-- the states of a column
abbrev pub states_in : {A : Type 0} → (A → ℕ → Bool) → ℕ → List A → List A → List Tern
states_in holds column hi lo = states_of (values_in holds column hi) (values_in holds column lo)

-- the column is one of those that there are, and in it the truths are the rails of these states
pub record IsColumn {A : Type 0} (columns : ℕ) (holds : A → ℕ → Bool) (hi lo : List A) (column : ℕ) (state : List Tern) : Type 0 where
  pub inside : column < columns
  pub has : HasColumn holds column hi lo state

-- each node has a rail in each column
pub record AreColumns {A : Type 0} (columns : ℕ) (holds : A → ℕ → Bool) (hi lo : List A) : Type 0 where
  pub counted : length lo ≡ length hi
  pub each : (column : ℕ) → column < columns → HasColumn holds column hi lo (states_in holds column hi lo)

-- the truths of a node have some rail in each column
abbrev pub HasStates : {A : Type 0} → ℕ → (A → ℕ → Bool) → A → A → Type 0
HasStates columns holds hi lo = (column : ℕ) → column < columns → (holds hi column || holds lo column) ≡ true
