-- The groups of the nodes so far have new stale parts.
use Rattle.std.proofs.Common.{take}
use Rattle.machine_laws.specs.Seating.{RenewsAll}
use Rattle.unit_step.proofs.machine.Machine.renew_all.Given as goal

abbrev pub invariant-loop-node : goal.invariant-loop-node
invariant-loop-node l = RenewsAll l.groups.groups (take l.node-index l.these) l.fn.self l.self
