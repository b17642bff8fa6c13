-- The floating nodes and the unused nodes so far are listed.
use Rattle.std.proofs.Common.{◌≡◌, Some, None, if◌then◌else◌}
use Rattle.std.specs.List.{filter_map, range_with_len}
use Rattle.circuit_lint.specs.Nodes.{floating_at, is_unused}
use Rattle.circuit_lint.proofs.nodes.floating_and_unused.Given as goal

abbrev pub invariant-loop-node : goal.invariant-loop-node
invariant-loop-node l = record {
  floating : l.floating.items ≡ filter_map (floating_at l.graph) (range_with_len 0 l.node);
  unused : l.unused.items ≡ filter_map (λ node. if is_unused l.graph node then Some node else None) (range_with_len 0 l.node);
}
