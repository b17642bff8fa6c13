-- Of the parts so far those are in that wait.
use Rattle.std.proofs.Common.{take}
use Rattle.std.specs.Prelude.{Contains}
use Rattle.machine_parts.specs.Marking.{IsMarked, MarksAll}
use Rattle.unit_step.proofs.remarking.put_waiting.Given as goal

abbrev pub invariant-loop-k : goal.invariant-loop-k
invariant-loop-k l = record {
  marks : MarksAll (λ k. Contains (take l.k-index l.parts) k × IsMarked l.agenda.waiting k) l.fn.set.inside l.set.inside;
}
