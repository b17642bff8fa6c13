-- Laws of counts that stay at the last value of their type.
use Rattle.std.proofs.Common.{◌≡◌, ℕ, ◌+◌, arith}
use Rattle.ternary.specs.Counts.{raised}

-- a count that rose by one number and then by another rose by both
pub raised-more : (count one more : ℕ) → raised (raised count one) more ≡ raised count (one + more)
raised-more count one more = omega arith

-- a count that rose by none is as before
pub raised-none : (count : ℕ) → count ≡ raised count 0
raised-none count = omega arith
