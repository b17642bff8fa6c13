-- The nodes so far are cleared.
use Rattle.std.proofs.Common.{take}
use Rattle.machine_laws.specs.Seating.{Clears}
use Rattle.unit_step.proofs.machine.Machine.vacate_all.Given as goal

abbrev pub invariant-loop-node : goal.invariant-loop-node
invariant-loop-node l = Clears (take l.node-index l.nodes) l.fn.self l.self
