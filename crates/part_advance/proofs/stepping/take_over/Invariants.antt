-- The changes so far are taken over, and their readers marked.
use Rattle.std.proofs.Common.{◌≡◌, take}
use Rattle.machine_parts.specs.Marking.{MarksAll}
use Rattle.wide_groups.specs.Awake.{TurnedIn}
use Rattle.machine_parts.specs.Running.{IsTaken, ReadsAny}
use Rattle.part_advance.proofs.stepping.take_over.Given as goal

abbrev pub invariant-loop-change : goal.invariant-loop-change
invariant-loop-change l = record {
  taken : IsTaken (take l.change-index l.changes) l.fn.state l.state;
  marks : MarksAll (ReadsAny l.readers (take l.change-index l.changes)) l.fn.agenda.marks l.agenda.marks;
  turned : TurnedIn l.fn.wide l.wide l.fn.state l.state;
  waiting : l.agenda.waiting ≡ l.fn.agenda.waiting;
}
