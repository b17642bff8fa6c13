-- The places of pairs of formulas.
use Rattle.std.specs.Prelude.{◌≡◌, ℕ, ◌<◌, ◌⊎◌, List, Some, slice_get}
use Rattle.bool_pool.specs.declared.gate.Rails.{Rails}

-- one of the first pairs, so many of them, has a formula at this place
pub record IsRoot (outs : List Rails) (count place : ℕ) : Type 0 where
  pub k : ℕ
  pub rails : Rails
  pub before : k < count
  pub answer : slice_get outs k ≡ Some rails
  pub is : (place ≡ rails.hi.place) ⊎ (place ≡ rails.lo.place)
