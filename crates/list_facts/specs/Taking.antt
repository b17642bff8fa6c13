-- A number that is taken out of a list.
use Rattle.std.specs.Prelude.{◌≢◌, ℕ, ◌==◌, List, Contains, nat_eq, not, filter}
use Rattle.std.specs.List.{IsDistinct}

-- the list without this number
abbrev pub without : ℕ → List ℕ → List ℕ
without number list = filter (λ one. not (one == number)) list

-- the number is taken out of a list without repeats: all others stay, in some order
pub record TakesOut (number : ℕ) (old new : List ℕ) : Type 0 where
  pub kept : (q : ℕ) → q ≢ number → Contains old q → Contains new q
  pub only : (q : ℕ) → Contains new q → Contains old q × (q ≢ number)
  pub distinct : IsDistinct nat_eq new
