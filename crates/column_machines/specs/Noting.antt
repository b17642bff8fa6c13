-- Changes of nodes in words: what is noted of the next words of a part's members.
use Rattle.std.specs.Prelude.{◌≡◌, ℕ, ◌<◌, ◌⊎◌, Bool, true, false, not, ◌&&◌, ◌||◌, List, length, Contains, slice_index, bit_or}
use Rattle.word_columns.specs.Columns.{is_in_column}
use Rattle.column_machines.specs.declared.evaluation.WordChange.{WordChange}

-- a rail of a node that is given one: a joining step joins both
abbrev pub after_word : Bool → ℕ → ℕ → ℕ
after_word true old given = bit_or old given
after_word false old given = given

-- two bits differ
abbrev pub differ : Bool → Bool → Bool
differ a true = not a
differ a false = a

-- the column is one of the used ones, and the change changes the node in it
abbrev pub differs_in : ℕ → ℕ → ℕ → ℕ → WordChange → Bool
differs_in used hi lo column change =
    (differ (is_in_column column change.hi) (is_in_column column hi) || differ (is_in_column column change.lo) (is_in_column column lo))
    && is_in_column column used

-- some change is of the node
pub record HasChange (changes : List WordChange) (node : ℕ) : Type 0 where
  pub change : WordChange
  pub there : Contains changes change
  pub of_node : change.node ≡ node

-- the node's next words are those that are given to it
pub record IsNextOf (joining : Bool) (hi lo : List ℕ) (one other : ℕ) (change : WordChange) : Type 0 where
  pub high : change.hi ≡ after_word joining (slice_index hi change.node) one
  pub low : change.lo ≡ after_word joining (slice_index lo change.node) other

-- the words at some place make the node at that place change so
pub record IsNoted (joining : Bool) (nodes hi lo ones others : List ℕ) (change : WordChange) : Type 0 where
  pub place : ℕ
  pub inside : place < length ones
  pub node : slice_index nodes place ≡ change.node
  pub next : IsNextOf joining hi lo (slice_index ones place) (slice_index others place) change

-- in no used column the node takes other rails
abbrev pub IsIdle : Bool → ℕ → List ℕ → List ℕ → ℕ → ℕ → ℕ → Type 0
IsIdle joining used hi lo node one other =
    (column : ℕ) → differs_in used (slice_index hi node) (slice_index lo node) column
    (record { node = node; hi = after_word joining (slice_index hi node) one; lo = after_word joining (slice_index lo node) other }) ≡ false

-- at the first places, so many, each node that changes in some column is noted behind what was noted, and nothing else is
pub record Notes (joining : Bool) (used : ℕ) (nodes hi lo ones others : List ℕ) (count : ℕ) (old new : List WordChange) : Type 0 where
  pub kept : (change : WordChange) → Contains old change → Contains new change
  pub noted : (place : ℕ) → place < count →
      HasChange new (slice_index nodes place)
      ⊎ IsIdle joining used hi lo (slice_index nodes place) (slice_index ones place) (slice_index others place)
  pub only : (change : WordChange) → Contains new change → Contains old change ⊎ IsNoted joining nodes hi lo ones others change
