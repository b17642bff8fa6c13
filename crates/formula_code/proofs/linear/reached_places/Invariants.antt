-- The places of the pairs so far.
use Rattle.std.proofs.Common.{ℕ, ◌↔◌, Contains}
use Rattle.formula_code.specs.Places.{IsRoot}
use Rattle.formula_code.proofs.linear.reached_places.Given as goal

abbrev pub invariant-loop-rails : goal.invariant-loop-rails
invariant-loop-rails l = (place : ℕ) → Contains l.roots.keys place ↔ IsRoot l.outs l.rails-index place
