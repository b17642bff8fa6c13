-- The nodes so far are in.
use Rattle.std.proofs.Common.{take}
use Rattle.std.specs.Prelude.{Contains}
use Rattle.machine_parts.specs.Marking.{MarksAll}
use Rattle.unit_step.proofs.holding.put_all.Given as goal

abbrev pub invariant-loop-node : goal.invariant-loop-node
invariant-loop-node l = record { marks : MarksAll (Contains (take l.node-index l.nodes)) l.fn.set.inside l.set.inside }
