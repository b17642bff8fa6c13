-- The parts so far are marked.
use Rattle.std.proofs.Common.{◌≡◌}
use Rattle.unit_step.specs.Restarting.{MarksBelow}
use Rattle.unit_step.proofs.restarting.mark_below.Given as goal

abbrev pub invariant-loop-k : goal.invariant-loop-k
invariant-loop-k l = record {
  marks : MarksBelow l.k l.fn.agenda.marks l.agenda.marks;
  waiting : l.agenda.waiting ≡ l.fn.agenda.waiting;
}
