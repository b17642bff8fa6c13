-- The nodes so far are loaded.
use Rattle.std.proofs.Common.{take}
use Rattle.std.specs.Prelude.{Contains}
use Rattle.column_machines.specs.Turns.{IsLoaded}
use Rattle.column_machines.proofs.turns.load.Given as goal

abbrev pub invariant-loop-node : goal.invariant-loop-node
invariant-loop-node l = IsLoaded l.graph l.column (Contains (take l.node-index l.nodes)) l.hi l.lo l.initial.machine l.machine
