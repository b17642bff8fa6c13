-- The switches at the places so far are counted.
use Rattle.circuit_lint.specs.Nodes.{AreGatesTo}
use Rattle.circuit_lint.proofs.nodes.gate_counts.Given as goal

abbrev pub invariant-loop-place : goal.invariant-loop-place
invariant-loop-place l = AreGatesTo l.graph l.place l.gates.items
