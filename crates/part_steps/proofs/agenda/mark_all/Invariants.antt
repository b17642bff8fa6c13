-- The parts so far are marked.
use Rattle.std.proofs.Common.{◌≡◌, take}
use Rattle.std.specs.Prelude.{Contains}
use Rattle.machine_parts.specs.Marking.{MarksAll}
use Rattle.part_steps.proofs.agenda.mark_all.Given as goal

abbrev pub invariant-loop-k : goal.invariant-loop-k
invariant-loop-k l = record {
  marks : MarksAll (Contains (take l.k-index l.parts)) l.fn.agenda.marks l.agenda.marks;
  waiting : l.agenda.waiting ≡ l.fn.agenda.waiting;
}
