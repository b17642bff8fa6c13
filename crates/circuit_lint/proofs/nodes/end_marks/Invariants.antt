-- The ends of the switches at the places so far are marked.
use Rattle.circuit_lint.specs.Nodes.{AreEndsTo}
use Rattle.circuit_lint.proofs.nodes.end_marks.Given as goal

abbrev pub invariant-loop-place : goal.invariant-loop-place
invariant-loop-place l = AreEndsTo l.graph l.place l.ends.items
