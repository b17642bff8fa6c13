-- Of the parts so far those are marked that are among these.
use Rattle.std.proofs.Common.{◌≡◌, take}
use Rattle.std.specs.Prelude.{Contains}
use Rattle.machine_parts.specs.Marking.{IsMarked, MarksAll}
use Rattle.unit_step.proofs.among.mark_among.Given as goal

abbrev pub invariant-loop-k : goal.invariant-loop-k
invariant-loop-k l = record {
  marks : MarksAll (λ k. Contains (take l.k-index l.parts) k × IsMarked l.among.inside k) l.fn.agenda.marks l.agenda.marks;
  waiting : l.agenda.waiting ≡ l.fn.agenda.waiting;
}
