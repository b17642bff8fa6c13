-- The least solution of a system of equations over truth values, and what eliminating an unknown makes of the system.
-- Unknown i is true where its right side is, or where an edge leads from it to a true unknown that is left.
-- After Bryant, "Boolean Analysis of MOS Circuits", 1987.
use Rattle.std.specs.Prelude.{◌≡◌, ℕ, Bool, true, not, ◌&&◌, ◌||◌, ◌==◌}

-- the unknown is true in the least solution
pub data Sol (left : ℕ → Bool) (edge : ℕ → ℕ → Bool) (right : ℕ → Bool) : ℕ → Type 0 where
  begins : {i : ℕ} → right i ≡ true → Sol left edge right i
  follows : {i : ℕ} (j : ℕ) → left j ≡ true → edge i j ≡ true → Sol left edge right j → Sol left edge right i

-- all unknowns that are left, but k
abbrev pub without : (ℕ → Bool) → ℕ → ℕ → Bool
without left k i = left i && not (i == k)

-- the edge from i to j without k: the edge that there was, or one through k
abbrev pub edge_past : (ℕ → ℕ → Bool) → ℕ → ℕ → ℕ → Bool
edge_past edge k i j = edge i j || (edge i k && edge k j)

-- the right side of i without k: the one that there was, or that of k through the edge to k
abbrev pub right_past : (ℕ → ℕ → Bool) → (ℕ → Bool) → ℕ → ℕ → Bool
right_past edge right k i = right i || (edge i k && right k)
