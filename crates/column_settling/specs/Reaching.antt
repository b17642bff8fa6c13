-- What moves lead to, one after the other, where each stands in a relation to what was before it.
use Rattle.std.specs.Prelude.{◌≡◌, ℕ, zero, suc}

-- so many moves of this kind lead from one to the other
abbrev pub ReachesIn : {M : Type 0} → (M → M → Type 0) → ℕ → M → M → Type 0
ReachesIn By zero old new = new ≡ old
ReachesIn {M} By (suc count) old new = (mid : M) × ReachesIn By count old mid × By mid new

-- some number of them does
abbrev pub Reaches : {M : Type 0} → (M → M → Type 0) → M → M → Type 0
Reaches By old new = (count : ℕ) × ReachesIn By count old new
