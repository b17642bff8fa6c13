-- The nodes so far are in.
use Rattle.std.proofs.Common.{take}
use Rattle.std.specs.Prelude.{Contains}
use Rattle.machine_parts.specs.Marking.{MarksAll}
use Rattle.column_machines.proofs.uneven.put_changed.Given as goal

abbrev pub invariant-loop-at : goal.invariant-loop-at
invariant-loop-at g l = record { marks : MarksAll (Contains (take l.at (g.M.Moved.changed l.moved))) l.fn.set.inside l.set.inside }
