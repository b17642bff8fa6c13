-- The nodes so far are written.
use Rattle.std.proofs.Common.{take}
use Rattle.std.specs.Prelude.{Contains}
use Rattle.column_machines.specs.Turns.{WritesAt}
use Rattle.column_machines.proofs.turns.write.Given as goal

abbrev pub invariant-loop-node : goal.invariant-loop-node
invariant-loop-node l = WritesAt (Contains (take l.node-index l.nodes)) l.column l.state l.initial.hi l.initial.lo l.hi l.lo
