-- The nodes so far are owned.
use Rattle.std.proofs.Common.{take}
use Rattle.machine_parts.specs.Making.{Owns}
use Rattle.part_steps.proofs.making.own.Given as goal

abbrev pub invariant-loop-node : goal.invariant-loop-node
invariant-loop-node l = Owns l.k (take l.node-index l.members) l.fn.owners l.owners
