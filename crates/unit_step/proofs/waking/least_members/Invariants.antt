-- The first nodes of the parts so far that wait, but for those that are passed over.
use Rattle.std.proofs.Common.{◌≡◌, ℕ, ◌⊎◌, take}
use Rattle.std.specs.Prelude.{Contains}
use Rattle.machine_parts.specs.Marking.{IsMarked}
use Rattle.machine_laws.specs.Finishing.{first_node}
use Rattle.unit_step.specs.Holding.{IsPassed}
use Rattle.unit_step.proofs.waking.least_members.Given as goal

abbrev pub invariant-loop-k : goal.invariant-loop-k
invariant-loop-k l = record {
  all : (k : ℕ) → Contains (take l.k-index l.k-items) k → IsMarked l.agenda.waiting k →
      Contains l.nodes.items (first_node l.parts k) ⊎ IsPassed l.large l.wide (first_node l.parts k);
  only : (node : ℕ) → Contains l.nodes.items node → (k : ℕ) × IsMarked l.agenda.waiting k × (first_node l.parts k ≡ node);
}
