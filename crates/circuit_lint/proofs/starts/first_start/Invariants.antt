-- The first start at the places so far.
use Rattle.std.proofs.Common.{take}
use Rattle.circuit_lint.specs.Starts.{FindsStart}
use Rattle.circuit_lint.proofs.starts.first_start.Given as goal

abbrev pub invariant-loop-place : goal.invariant-loop-place
invariant-loop-place l = FindsStart l.graph l.distance (take l.place-index l.places) l.first
