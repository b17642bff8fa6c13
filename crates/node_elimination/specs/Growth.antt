-- Formulas that are held at a time, and how many And, Or and Not gates they come to reach.
use Rattle.std.specs.Prelude.{ℕ, ◌<◌, ◌≤◌, List, ◌++◌, length, All, slice_index_or}
use Rattle.bool_pool.specs.declared.gate.Gate.{Gate}
use Rattle.bool_pool.specs.declared.gate.Id.{Id}
use Rattle.bool_pool.specs.Reach.{IsWithin}

-- the place of the formula at an index
abbrev pub place_of : List Id → ℕ → ℕ
place_of ids k = (slice_index_or ids k (record { place = 0 })).place

-- each of the formulas is one of the pool
abbrev pub AreFormulas : List Gate → List Id → Type 0
AreFormulas gates ids = All (λ id. id.place < length gates) ids

-- each And, Or and Not that one of the formulas reaches is listed, and each variable is below the bound
abbrev pub AreWithin : List Gate → List ℕ → ℕ → List Id → Type 0
AreWithin gates listed bound ids = All (λ id. IsWithin gates listed bound id.place) ids

-- at most so many places more have to be listed for all of the formulas together
pub record AreGrown (gates : List Gate) (listed : List ℕ) (bound count : ℕ) (ids : List Id) : Type 0 where
  pub more : List ℕ
  pub few : length more ≤ count
  pub within : AreWithin gates (more ++ listed) bound ids

-- whatever places and variables the old formulas are within, at most so many places more have to be listed for the new ones
pub record Grows (before : List Gate) (old : List Id) (after : List Gate) (new : List Id) (count : ℕ) : Type 0 where
  pub grown : (listed : List ℕ) (bound : ℕ) → AreWithin before listed bound old → AreGrown after listed bound count new
