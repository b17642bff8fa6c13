-- So many parts that wait stand behind the others.
use Rattle.std.proofs.Common.{◌≡◌, ◌+◌, ◌++◌, true, false, replicate}
use Rattle.part_steps.proofs.agenda.Agenda.with_stale.Given as goal

abbrev pub invariant-loop-part : goal.invariant-loop-part
invariant-loop-part l = record {
  marks : l.agenda.marks ≡ replicate (l.ready + l._part) true;
  waiting : l.agenda.waiting ≡ replicate l.ready false ++ replicate l._part true;
}
