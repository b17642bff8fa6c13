-- No switch so far has an end at the node.
use Rattle.std.proofs.Common.{◌≡◌, false, take}
use Rattle.circuit_lint.specs.Sides.{ends_at}
use Rattle.circuit_lint.proofs.sides.ends_at.Given as goal

abbrev pub invariant-loop-place : goal.invariant-loop-place
invariant-loop-place l = ends_at l.graph l.node (take l.place-index l.places) ≡ false
