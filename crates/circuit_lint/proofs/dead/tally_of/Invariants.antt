-- The dead switches at the places so far are counted.
use Rattle.std.proofs.Common.{take}
use Rattle.circuit_lint.specs.Tallies.{AreTallied}
use Rattle.circuit_lint.proofs.dead.tally_of.Given as goal

abbrev pub invariant-loop-place : goal.invariant-loop-place
invariant-loop-place l = AreTallied (take l.place l.graph.places) l.tally
