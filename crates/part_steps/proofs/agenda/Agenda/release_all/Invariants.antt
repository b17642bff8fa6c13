-- Those of these parts that stand before the next one wait no more.
use Rattle.std.proofs.Common.{◌≡◌, ℕ, take}
use Rattle.std.specs.Prelude.{◌↔◌, Contains}
use Rattle.machine_parts.specs.Marking.{IsMarked}
use Rattle.part_steps.proofs.agenda.Agenda.release_all.Given as goal

abbrev pub invariant-loop-k : goal.invariant-loop-k
invariant-loop-k l = record {
  marks : l.self.marks ≡ l.fn.self.marks;
  waiting : (k : ℕ) → IsMarked l.self.waiting k ↔ (IsMarked l.fn.self.waiting k × (¬ Contains (take l.k-index l.these) k));
}
