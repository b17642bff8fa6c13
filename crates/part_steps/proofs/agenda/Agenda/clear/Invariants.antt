-- What waits waits still.
use Rattle.std.proofs.Common.{◌≡◌, length}
use Rattle.machine_parts.specs.Marking.{count_marked}
use Rattle.part_steps.proofs.agenda.Agenda.clear.Given as goal

abbrev pub invariant-loop-part : goal.invariant-loop-part
invariant-loop-part l = record {
  count : length l.self.marks ≡ length l.fn.self.marks;
  waiting : l.self.waiting ≡ l.fn.self.waiting;
}

abbrev pub decreases-loop-part : goal.decreases-loop-part
decreases-loop-part l = count_marked l.self.marks
