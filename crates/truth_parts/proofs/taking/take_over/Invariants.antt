-- The changes so far are taken over, and their readers marked.
use Rattle.std.proofs.Common.{take}
use Rattle.machine_parts.specs.Marking.{MarksAll}
use Rattle.truth_parts.specs.Stepping.{AreWritten, ReadsAny}
use Rattle.truth_parts.proofs.taking.take_over.Given as goal

abbrev pub invariant-loop-change : goal.invariant-loop-change
invariant-loop-change g l = record {
  written : AreWritten (take l.change-index l.changes) l.fn.hi l.fn.lo l.hi l.lo;
  marks : MarksAll (ReadsAny l.readers (take l.change-index l.changes)) l.fn.agenda l.agenda;
}
