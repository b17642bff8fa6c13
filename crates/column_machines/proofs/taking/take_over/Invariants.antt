-- The changes so far are taken over, and their readers marked.
use Rattle.std.proofs.Common.{take}
use Rattle.machine_parts.specs.Marking.{MarksAll}
use Rattle.column_machines.specs.Running.{AreWritten, ReadsAny}
use Rattle.column_machines.proofs.taking.take_over.Given as goal

abbrev pub invariant-loop-change : goal.invariant-loop-change
invariant-loop-change l = record {
  written : AreWritten (take l.change-index l.changes) l.fn.hi l.fn.lo l.hi l.lo;
  marks : MarksAll (ReadsAny l.machine.parts (take l.change-index l.changes)) l.fn.agenda l.agenda;
}
