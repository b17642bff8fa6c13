-- The nodes so far are in.
use Rattle.std.proofs.Common.{◌≡◌, ℕ, ◌<◌, length}
use Rattle.vicinity.specs.NodeSets.{IsIn}
use Rattle.column_machines.proofs.uneven.put_each.Given as goal

abbrev pub invariant-loop-node : goal.invariant-loop-node
invariant-loop-node l = record {
  count : length l.set.inside ≡ length l.fn.set.inside;
  each : (node : ℕ) → node < l.node → IsIn l.set.inside node;
}
