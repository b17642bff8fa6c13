-- No switch so far has an end at another input node.
use Rattle.std.proofs.Common.{◌≡◌, false, take}
use Rattle.circuit_lint.specs.Sides.{ends_at_input}
use Rattle.circuit_lint.proofs.sides.ends_at_input.Given as goal

abbrev pub invariant-loop-place : goal.invariant-loop-place
invariant-loop-place l = ends_at_input l.graph (take l.place-index l.places) ≡ false
