-- Changes of nodes in truths: what is noted of the next rails of a part's members.
use Rattle.std.specs.Prelude.{◌≡◌, ℕ, ◌<◌, ◌⊎◌, Bool, true, false, ◌||◌, List, [], ◌∷◌, ◌++◌, length, Contains, slice_index, Option, Some, None}
use Rattle.truth_parts.specs.declared.workspace.TruthChange.{TruthChange}
use Rattle.truth_parts.specs.Columns.{rail_in}

-- a rail of a node that is given one: a joining step joins both
abbrev pub after_rail : Bool → Bool → Bool → Bool
after_rail true old given = old || given
after_rail false old given = given

-- the change is to truths of the maker
pub record IsOf {A : Type 0} (has : A → Type 0) (change : TruthChange A) : Type 0 where
  pub high : has change.hi
  pub low : has change.lo

-- some change is of the node
pub record HasChange {A : Type 0} (changes : List (TruthChange A)) (node : ℕ) : Type 0 where
  pub change : TruthChange A
  pub there : Contains changes change
  pub of_node : change.node ≡ node

-- in the column the change leaves its node as it is
pub record LeavesIn {A : Type 0} (holds : A → ℕ → Bool) (hi lo : List A) (column : ℕ) (change : TruthChange A) : Type 0 where
  pub high : holds change.hi column ≡ rail_in holds column hi change.node
  pub low : holds change.lo column ≡ rail_in holds column lo change.node

-- in some column the change changes its node
pub record Differs {A : Type 0} (columns : ℕ) (holds : A → ℕ → Bool) (hi lo : List A) (change : TruthChange A) : Type 0 where
  pub column : ℕ
  pub inside : column < columns
  pub other : ¬ LeavesIn holds hi lo column change

-- in each column the node's next rails are those that are given to it at a place
pub record IsNextOf {A : Type 0} (joining : Bool) (columns : ℕ) (holds : A → ℕ → Bool) (hi lo ones others : List A) (place : ℕ) (change : TruthChange A) : Type 0 where
  pub high : (column : ℕ) → column < columns → holds change.hi column ≡ after_rail joining (rail_in holds column hi change.node) (rail_in holds column ones place)
  pub low : (column : ℕ) → column < columns → holds change.lo column ≡ after_rail joining (rail_in holds column lo change.node) (rail_in holds column others place)

-- the rails at some place make the node at that place change so
pub record IsNoted {A : Type 0} (joining : Bool) (columns : ℕ) (holds : A → ℕ → Bool) (nodes : List ℕ) (hi lo ones others : List A) (change : TruthChange A) : Type 0 where
  pub place : ℕ
  pub inside : place < length ones
  pub node : slice_index nodes place ≡ change.node
  pub next : IsNextOf joining columns holds hi lo ones others place change
  pub differs : Differs columns holds hi lo change

-- in no column the node takes other rails by those that are given at a place
pub record IsIdle {A : Type 0} (joining : Bool) (columns : ℕ) (holds : A → ℕ → Bool) (hi lo ones others : List A) (node place : ℕ) : Type 0 where
  pub high : (column : ℕ) → column < columns → after_rail joining (rail_in holds column hi node) (rail_in holds column ones place) ≡ rail_in holds column hi node
  pub low : (column : ℕ) → column < columns → after_rail joining (rail_in holds column lo node) (rail_in holds column others place) ≡ rail_in holds column lo node

-- at the first places, so many, each node that changes in some column is noted behind what was noted, and nothing else is
pub record Notes {A : Type 0} (joining : Bool) (columns : ℕ) (holds : A → ℕ → Bool) (nodes : List ℕ) (hi lo ones others : List A) (count : ℕ)
    (old new : List (TruthChange A)) : Type 0 where
  pub kept : (change : TruthChange A) → Contains old change → Contains new change
  pub noted : (place : ℕ) → place < count →
      HasChange new (slice_index nodes place) ⊎ IsIdle joining columns holds hi lo ones others (slice_index nodes place) place
  pub only : (change : TruthChange A) → Contains new change → Contains old change ⊎ IsNoted joining columns holds nodes hi lo ones others change

-- two rails are those that they were, in each column
pub record AreAlike {A : Type 0} (columns : ℕ) (holds : A → ℕ → Bool) (hi lo old_hi old_lo : A) : Type 0 where
  pub high : (column : ℕ) → column < columns → holds hi column ≡ holds old_hi column
  pub low : (column : ℕ) → column < columns → holds lo column ≡ holds old_lo column

-- in some column one of two rails isn't what it was
pub record AreUnlike {A : Type 0} (columns : ℕ) (holds : A → ℕ → Bool) (hi lo old_hi old_lo : A) : Type 0 where
  pub column : ℕ
  pub inside : column < columns
  pub other : ¬ ((holds hi column ≡ holds old_hi column) × (holds lo column ≡ holds old_lo column))

-- the change is that of a node with these rails which is given those, and it changes the node in some column
pub record IsNextFrom {A : Type 0} (joining : Bool) (columns : ℕ) (has : A → Type 0) (holds : A → ℕ → Bool) (node : ℕ) (hi lo one other : A)
    (change : TruthChange A) : Type 0 where
  pub of_node : change.node ≡ node
  pub of_maker : IsOf has change
  pub high : (column : ℕ) → column < columns → holds change.hi column ≡ after_rail joining (holds hi column) (holds one column)
  pub low : (column : ℕ) → column < columns → holds change.lo column ≡ after_rail joining (holds lo column) (holds other column)
  pub unlike : AreUnlike columns holds change.hi change.lo hi lo

-- a node with these rails which is given those stays as it is
pub record StaysBy {A : Type 0} (joining : Bool) (columns : ℕ) (holds : A → ℕ → Bool) (hi lo one other : A) : Type 0 where
  pub high : (column : ℕ) → column < columns → after_rail joining (holds hi column) (holds one column) ≡ holds hi column
  pub low : (column : ℕ) → column < columns → after_rail joining (holds lo column) (holds other column) ≡ holds lo column

-- the changes with one that was found behind them
abbrev pub with_found : {A : Type 0} → Option (TruthChange A) → List (TruthChange A) → List (TruthChange A)
with_found None changes = changes
with_found (Some change) changes = changes ++ change ∷ []
