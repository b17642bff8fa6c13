-- The places that formulas reach, as they are collected: the greatest that waits is taken out, and its gate's operands wait in turn.
use Rattle.std.specs.Prelude.{◌≡◌, ℕ, ◌+◌, ◌-◌, ◌^◌, ◌<◌, ◌≤◌, ◌⊎◌, ◌↔◌, Bool, true, false, List, length, Contains, slice_index_or}
use Rattle.std.specs.List.Sorted.{IsStrictlyIncreasing}
use Rattle.bool_pool.specs.declared.gate.Gate.{Gate}
use Rattle.bool_pool.specs.Gate.{gate_at, IsOperand}
use Rattle.bool_pool.specs.Reach.{AnyReaches}

-- the place has a mark in the window that begins at the bottom
abbrev pub IsMarkedFrom : ℕ → List Bool → ℕ → Type 0
IsMarkedFrom bottom marks place = (bottom ≤ place) × (slice_index_or marks (place - bottom) false ≡ true)

-- the place stands among the older ones, or has a mark
abbrev pub Waits : List ℕ → ℕ → List Bool → ℕ → Type 0
Waits older bottom marks place = Contains older place ⊎ IsMarkedFrom bottom marks place

-- the older ones are below the window, which is one of places
abbrev pub AreApart : List ℕ → ℕ → List Bool → Type 0
AreApart older bottom marks = ((place : ℕ) → Contains older place → place < bottom) × (bottom + length marks < 2 ^ 64)

-- the place was the greatest that waited, and waits no more
pub record IsTakenOut (before after : ℕ → Type 0) (place : ℕ) : Type 0 where
  pub each : (k : ℕ) → before k ↔ (after k ⊎ (k ≡ place))
  pub below : (k : ℕ) → after k → k < place

-- the place waits or was taken out
abbrev pub IsFound : (ℕ → Type 0) → List ℕ → ℕ → Type 0
IsFound waits taken place = waits place ⊎ Contains taken place

-- what was found is reached; the roots were found, and so were the operands of each place that was taken out; these places ascend,
-- and what waits is below them
pub record AreCollected (gates : List Gate) (roots : List ℕ) (waits : ℕ → Type 0) (taken : List ℕ) : Type 0 where
  pub reached : (place : ℕ) → IsFound waits taken place → AnyReaches gates roots place
  pub rooted : (place : ℕ) → Contains roots place → IsFound waits taken place
  pub operands : (place k : ℕ) → Contains taken place → IsOperand (gate_at gates place) k → IsFound waits taken k
  pub ascending : IsStrictlyIncreasing taken
  pub below : (place : ℕ) → waits place → place < slice_index_or taken 0 (length gates)
