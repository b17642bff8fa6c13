-- The lists so far begin at the places so far.
use Rattle.std.proofs.Common.{take}
use Rattle.circuit_lint.specs.Ways.{lists_of, AreWays}
use Rattle.circuit_lint.proofs.shorts.shorts_of.Given as goal

abbrev pub invariant-loop-place : goal.invariant-loop-place
invariant-loop-place l = AreWays l.graph (take l.place-index l.place-items) (lists_of l.ways.items)
