-- The places of the formulas so far.
use Rattle.std.proofs.Common.{ℕ, ◌↔◌, take, Contains}
use Rattle.bool_pool.specs.Compact.{places_of}
use Rattle.bool_pool.proofs.compact.root_places.Given as goal

abbrev pub invariant-loop-root : goal.invariant-loop-root
invariant-loop-root l = (place : ℕ) → Contains l.places.keys place ↔ Contains (places_of (take l.root-index l.roots)) place
