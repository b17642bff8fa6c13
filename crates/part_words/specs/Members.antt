-- One member of many parts: its states by the bits of two words, one for each rail, and what is noted of it.
use Rattle.std.specs.Prelude.{◌≡◌, ◌≢◌, ℕ, ◌+◌, ◌*◌, ◌⊎◌, List, length, take, Some, Contains, slice_get, slice_index}
use Rattle.ternary.specs.declared.tern.Tern.{Tern}
use Rattle.ternary.specs.Tern.{may_one, may_zero}
use Rattle.straight_code.specs.Code.{CodeData, results}
use Rattle.straight_code.specs.Flat.{flat_values}
use Rattle.word_columns.specs.Columns.{is_in_column, column_bits}
use Rattle.part_words.specs.Noting.{states_at}
use Rattle.part_words.specs.declared.change.Change.{Change}

-- the column's bits of both words are the rails of the state, "may be 1" first
pub record HasState (column hi lo : ℕ) (state : Tern) : Type 0 where
  pub one : is_in_column column hi ≡ may_one state
  pub other : is_in_column column lo ≡ may_zero state

-- in the column of each part both words are the rails of the state that belongs to the place at which its map begins
abbrev pub HasRails : List ℕ → ℕ → ℕ → (ℕ → Tern) → Type 0
HasRails starts hi lo states = (column at : ℕ) → slice_get starts column ≡ Some at → HasState column hi lo (states at)

-- in the column of each part, behind so many others, the array has the rails of the part's inputs and the results of the code's instructions
abbrev pub HasRun : CodeData → List ℕ → List ℕ → ℕ → List Tern → List ℕ → Type 0
HasRun code nodes starts shift state values = (column at : ℕ) → slice_get starts column ≡ Some at →
    take (2 + 2 * code.inputs + length code.instructions) (column_bits (shift + column) values)
    ≡ flat_values (states_at state nodes code.inputs at) (results (states_at state nodes code.inputs at) code.instructions)

-- the member at place k of the part whose map begins at this place changes so, by its states before and after
pub record IsMoved (nodes : List ℕ) (k : ℕ) (before next : ℕ → Tern) (at : ℕ) (change : Change) : Type 0 where
  pub node : slice_index nodes (at + k) ≡ change.node
  pub value : change.value ≡ next at
  pub differs : next at ≢ before at

-- the changes of all parts whose maps begin at these places are noted behind what was noted, and no others
pub record NotesEach (starts : List ℕ) (IsSo : ℕ → Change → Type 0) (old new : List Change) : Type 0 where
  pub kept : (change : Change) → Contains old change → Contains new change
  pub noted : (at : ℕ) (change : Change) → Contains starts at → IsSo at change → Contains new change
  pub only : (change : Change) → Contains new change → Contains old change ⊎ ((at : ℕ) × Contains starts at × IsSo at change)
