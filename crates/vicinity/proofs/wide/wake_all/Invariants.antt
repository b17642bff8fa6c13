-- The storage nodes so far came to the set.
use Rattle.std.proofs.Common.{◌≡◌, ℕ, ◌<◌, length}
use Rattle.switch_paths.specs.Graphs.{IsStorage}
use Rattle.vicinity.specs.NodeSets.{IsIn}
use Rattle.vicinity.proofs.wide.wake_all.Given as goal

abbrev pub invariant-loop-node : goal.invariant-loop-node
invariant-loop-node l = record {
  count : length l.touched.inside ≡ length l.fn.touched.inside;
  all : (node : ℕ) → node < l.node → IsStorage l.graph node → IsIn l.touched.inside node;
}
