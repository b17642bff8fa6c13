-- The parts so far are marked.
use Rattle.std.proofs.Common.{take}
use Rattle.std.specs.Prelude.{Contains}
use Rattle.machine_parts.specs.Marking.{MarksAll}
use Rattle.part_lists.proofs.agenda.mark_all.Given as goal

abbrev pub invariant-loop-k : goal.invariant-loop-k
invariant-loop-k l = MarksAll (Contains (take l.k-index l.parts)) l.fn.agenda l.agenda
