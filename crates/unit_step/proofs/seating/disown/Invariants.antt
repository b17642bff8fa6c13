-- The nodes so far have no owner.
use Rattle.std.proofs.Common.{take}
use Rattle.machine_laws.specs.Seating.{Disowns}
use Rattle.unit_step.proofs.seating.disown.Given as goal

abbrev pub invariant-loop-node : goal.invariant-loop-node
invariant-loop-node l = Disowns (take l.node-index l.members) l.fn.owners l.owners
