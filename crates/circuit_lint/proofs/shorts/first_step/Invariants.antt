-- None of the places so far leads on.
use Rattle.std.proofs.Common.{ℕ, take, Contains}
use Rattle.circuit_lint.specs.Ways.{IsStep}
use Rattle.circuit_lint.proofs.shorts.first_step.Given as goal

abbrev pub invariant-loop-place : goal.invariant-loop-place
invariant-loop-place l = (place next : ℕ) → Contains (take l.place-index l.places) place → ¬ IsStep l.graph l.distance l.node l.left place next
