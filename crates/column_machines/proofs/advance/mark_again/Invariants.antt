-- Those of the parts so far that stay marked are marked.
use Rattle.std.proofs.Common.{take}
use Rattle.machine_parts.specs.Marking.{MarksAll}
use Rattle.column_machines.specs.Running.{StaysOn}
use Rattle.column_machines.proofs.advance.mark_again.Given as goal

abbrev pub invariant-loop-k : goal.invariant-loop-k
invariant-loop-k l = MarksAll (StaysOn l.joining l.parts (take l.k-index l.done)) l.fn.agenda l.agenda
