-- The supplies so far are listed.
use Rattle.std.proofs.Common.{◌≡◌}
use Rattle.std.specs.List.{filter_map, range_with_len}
use Rattle.circuit_lint.specs.Supplies.{supply_place}
use Rattle.circuit_lint.proofs.supplies.supplies.Given as goal

abbrev pub invariant-loop-node : goal.invariant-loop-node
invariant-loop-node l = l.found.items ≡ filter_map (supply_place l.circuit) (range_with_len 0 l.node)
