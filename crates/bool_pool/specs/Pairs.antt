-- Pairs of formulas, and what all of them reach together.
use Rattle.std.specs.Prelude.{◌≡◌, ℕ, ◌<◌, ◌≤◌, ◌⊎◌, ◌↔◌, List, length, Some, nat_eq, All, Contains, slice_get}
use Rattle.std.specs.List.{IsDistinct}
use Rattle.bool_pool.specs.declared.gate.Gate.{Gate}
use Rattle.bool_pool.specs.declared.gate.Rails.{Rails}
use Rattle.bool_pool.specs.Gate.{gate_at, IsOperation}
use Rattle.bool_pool.specs.Reach.{Reaches, ReachesVar}

-- one of the formulas reaches the gate at this place
pub record AreReaching (gates : List Gate) (answers : List Rails) (place : ℕ) : Type 0 where
  pub k : ℕ
  pub rails : Rails
  pub answer : slice_get answers k ≡ Some rails
  pub reached : Reaches gates rails.hi.place place ⊎ Reaches gates rails.lo.place place

-- the gate at this place is an And, an Or or a Not that one of the formulas reaches
abbrev pub IsOperationOf : List Gate → List Rails → ℕ → Type 0
IsOperationOf gates answers place = IsOperation (gate_at gates place) × AreReaching gates answers place

-- all formulas together reach at most so many operations: no list of different ones is longer
abbrev pub ReachAtMost : List Gate → List Rails → ℕ → Type 0
ReachAtMost gates answers count =
    (places : List ℕ) → IsDistinct nat_eq places → All (IsOperationOf gates answers) places → length places ≤ count

-- each variable that one of the formulas reaches is below the bound
abbrev pub HasVariablesBelow : List Gate → List Rails → ℕ → Type 0
HasVariablesBelow gates answers bound =
    (k : ℕ) (rails : Rails) (v : ℕ) → slice_get answers k ≡ Some rails →
    ReachesVar gates rails.hi.place v ⊎ ReachesVar gates rails.lo.place v → v < bound

-- all formulas together reach exactly so many operations: those at these places, no two of them equal
pub record ReachExactly (gates : List Gate) (answers : List Rails) (count : ℕ) : Type 0 where
  pub places : List ℕ
  pub apart : IsDistinct nat_eq places
  pub each : (place : ℕ) → Contains places place ↔ IsOperationOf gates answers place
  pub number : length places ≡ count
