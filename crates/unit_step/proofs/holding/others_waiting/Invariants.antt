-- Those of the parts so far that wait and aren't among these are listed, and no others.
use Rattle.std.proofs.Common.{ℕ, take}
use Rattle.std.specs.Prelude.{Contains}
use Rattle.machine_parts.specs.Marking.{IsMarked}
use Rattle.unit_step.proofs.holding.others_waiting.Given as goal

abbrev pub invariant-loop-k : goal.invariant-loop-k
invariant-loop-k l = record {
  only : (k : ℕ) → Contains l.others.items k → IsMarked l.agenda.waiting k × (¬ Contains l.these k);
  all : (k : ℕ) → Contains (take l.k-index l.k-items) k → IsMarked l.agenda.waiting k → ¬ Contains l.these k → Contains l.others.items k;
}
