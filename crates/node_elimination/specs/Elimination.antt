-- What each part of the elimination does to a system, as values under all truth values of the variables.
-- `before` and `after` are the pool's gates, `old` and `new` the system.
use Rattle.std.specs.Prelude.{◌≡◌, ◌≢◌, ℕ, ◌<◌, ◌≤◌, ◌⊎◌, ◌↔◌, Bool, true, false, ◌&&◌, ◌||◌, List, ◌++◌}
use Rattle.bool_pool.specs.declared.gate.Gate.{Gate}
use Rattle.bool_pool.specs.declared.gate.Id.{Id}
use Rattle.bool_pool.specs.Gate.{Extends}
use Rattle.node_elimination.specs.Solution.{Sol, edge_past, right_past}
use Rattle.node_elimination.specs.Growth.{Grows}
use Rattle.node_elimination.specs.Equations.{SystemData, IsWhole, formulas_of, is_left, edge, right}

-- the system stays whole and as large, the same unknowns are left, and with the other formulas that are held its formulas
-- reach at most so many operations more
pub record Moves (others : List Id) (before : List Gate) (old : SystemData) (after : List Gate) (new : SystemData)
    (count : ℕ) : Type 0 where
  pub extends : Extends before after
  pub whole : IsWhole after new
  pub size : new.size ≡ old.size
  pub left : new.left ≡ old.left
  pub grows : Grows before (others ++ formulas_of old) after (others ++ formulas_of new) count

-- the edge from i to j now leads past k as well, if j is left; all else has the value that it had
pub record PassesEdge (k i j : ℕ) (before : List Gate) (old : SystemData) (after : List Gate)
    (new : SystemData) : Type 0 where
  pub here : (vars : ℕ → Bool) → is_left old j ≡ true → edge after new vars i j ≡ edge_past (edge before old vars) k i j
  pub skipped : (vars : ℕ → Bool) → is_left old j ≡ false → edge after new vars i j ≡ edge before old vars i j
  pub others : (vars : ℕ → Bool) (m n : ℕ) → m < old.size → n < old.size → ((m ≢ i) ⊎ (n ≢ j)) →
      edge after new vars m n ≡ edge before old vars m n
  pub rights : (vars : ℕ → Bool) (m : ℕ) → m < old.size → right after new vars m ≡ right before old vars m

-- the first edges of row i, so many of them, lead past k as well, where they lead to what is left
pub record PassesEdges (k i count : ℕ) (before : List Gate) (old : SystemData) (after : List Gate)
    (new : SystemData) : Type 0 where
  pub done : (vars : ℕ → Bool) (j : ℕ) → j < count → is_left old j ≡ true →
      edge after new vars i j ≡ edge_past (edge before old vars) k i j
  pub rest : (vars : ℕ → Bool) (m n : ℕ) → m < old.size → n < old.size →
      ((m ≢ i) ⊎ ((count ≤ n) ⊎ (is_left old n ≡ false))) →
      edge after new vars m n ≡ edge before old vars m n
  pub rights : (vars : ℕ → Bool) (m : ℕ) → m < old.size → right after new vars m ≡ right before old vars m

-- row i and its right side lead past k as well; the other rows and right sides have the values that they had
pub record PassesRow (k i : ℕ) (before : List Gate) (old : SystemData) (after : List Gate) (new : SystemData) : Type 0 where
  pub edges : (vars : ℕ → Bool) (j : ℕ) → is_left old i ≡ true → is_left old j ≡ true →
      edge after new vars i j ≡ edge_past (edge before old vars) k i j
  pub right_side : (vars : ℕ → Bool) → is_left old i ≡ true →
      right after new vars i ≡ right_past (edge before old vars) (right before old vars) k i
  pub other_edges : (vars : ℕ → Bool) (m n : ℕ) → m < old.size → n < old.size → ((m ≢ i) ⊎ (is_left old m ≡ false)) →
      edge after new vars m n ≡ edge before old vars m n
  pub other_rights : (vars : ℕ → Bool) (m : ℕ) → m < old.size → ((m ≢ i) ⊎ (is_left old m ≡ false)) →
      right after new vars m ≡ right before old vars m

-- the right side of i has this value now; all else has the value that it had
pub record PutsRight (i : ℕ) (meaning : (ℕ → Bool) → Bool) (before : List Gate) (old : SystemData) (after : List Gate)
    (new : SystemData) : Type 0 where
  pub here : (vars : ℕ → Bool) → right after new vars i ≡ meaning vars
  pub edges : (vars : ℕ → Bool) (m n : ℕ) → m < old.size → n < old.size → edge after new vars m n ≡ edge before old vars m n
  pub others : (vars : ℕ → Bool) (m : ℕ) → m < old.size → m ≢ i → right after new vars m ≡ right before old vars m

-- the first right sides, so many of them, have these values now; all else has the value that it had
pub record PutsRights (count : ℕ) (meaning : (ℕ → Bool) → ℕ → Bool) (before : List Gate) (old : SystemData)
    (after : List Gate) (new : SystemData) : Type 0 where
  pub done : (vars : ℕ → Bool) (i : ℕ) → i < count → i < old.size → right after new vars i ≡ meaning vars i
  pub edges : (vars : ℕ → Bool) (m n : ℕ) → m < old.size → n < old.size → edge after new vars m n ≡ edge before old vars m n

-- the first rows that are left, up to so many rows, lead past k as well
pub record PassesRows (k count : ℕ) (before : List Gate) (old : SystemData) (after : List Gate)
    (new : SystemData) : Type 0 where
  pub edges : (vars : ℕ → Bool) (i j : ℕ) → i < count → is_left old i ≡ true → is_left old j ≡ true →
      edge after new vars i j ≡ edge_past (edge before old vars) k i j
  pub rights : (vars : ℕ → Bool) (i : ℕ) → i < count → is_left old i ≡ true →
      right after new vars i ≡ right_past (edge before old vars) (right before old vars) k i
  pub other_edges : (vars : ℕ → Bool) (m n : ℕ) → m < old.size → n < old.size → ((count ≤ m) ⊎ (is_left old m ≡ false)) →
      edge after new vars m n ≡ edge before old vars m n
  pub other_rights : (vars : ℕ → Bool) (m : ℕ) → m < old.size → ((count ≤ m) ⊎ (is_left old m ≡ false)) →
      right after new vars m ≡ right before old vars m

-- what k has with what comes by its edge to j, if j is left
abbrev pub with_next : List Gate → SystemData → (ℕ → Bool) → ℕ → ℕ → Bool
with_next gates system vars k j =
    right gates system vars k || (is_left system j && (edge gates system vars k j && right gates system vars j))

-- unknown j is among the first, so many of them, is left and true, and the edge from k leads to it
pub record Follows (k count : ℕ) (gates : List Gate) (system : SystemData) (vars : ℕ → Bool) : Type 0 where
  pub j : ℕ
  pub below : j < count
  pub left : is_left system j ≡ true
  pub edge_set : edge gates system vars k j ≡ true
  pub right_set : right gates system vars j ≡ true

-- the right side of k is also true where an edge from k leads to one of the first unknowns that is left and true; all else
-- has the value that it had
pub record Gathers (k count : ℕ) (before : List Gate) (old : SystemData) (after : List Gate)
    (new : SystemData) : Type 0 where
  pub gathered : (vars : ℕ → Bool) →
      (right after new vars k ≡ true) ↔ ((right before old vars k ≡ true) ⊎ Follows k count before old vars)
  pub edges : (vars : ℕ → Bool) (m n : ℕ) → m < old.size → n < old.size → edge after new vars m n ≡ edge before old vars m n
  pub rights : (vars : ℕ → Bool) (m : ℕ) → m < old.size → m ≢ k → right after new vars m ≡ right before old vars m

-- the right sides of the unknowns that are left are their values in the least solution; the rows and right sides of the
-- others have the values that they had
pub record Solves (before : List Gate) (old : SystemData) (after : List Gate) (new : SystemData) : Type 0 where
  pub answers : (vars : ℕ → Bool) (i : ℕ) → is_left old i ≡ true →
      (right after new vars i ≡ true) ↔ Sol (is_left old) (edge before old vars) (right before old vars) i
  pub edges : (vars : ℕ → Bool) (m n : ℕ) → m < old.size → n < old.size → is_left old m ≡ false →
      edge after new vars m n ≡ edge before old vars m n
  pub rights : (vars : ℕ → Bool) (m : ℕ) → m < old.size → is_left old m ≡ false →
      right after new vars m ≡ right before old vars m
