-- Of the nodes so far those are in that have no owner.
use Rattle.std.proofs.Common.{◌≡◌, ◌↔◌, ◌<◌, ◌≤◌, ℕ, None, length}
use Rattle.std.specs.Prelude.{slice_index_or}
use Rattle.vicinity.specs.NodeSets.{IsIn}
use Rattle.run_beside.proofs.near.insert_unowned.Given as goal

abbrev pub invariant-loop-node : goal.invariant-loop-node
invariant-loop-node l = record {
  counted : length l.set.inside ≡ length l.fn.set.inside;
  so_far : (node : ℕ) → node < l.node → IsIn l.set.inside node ↔ (slice_index_or l.owners node None ≡ None);
  later : (node : ℕ) → l.node ≤ node → ¬ IsIn l.set.inside node;
}
