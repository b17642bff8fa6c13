-- The steps so far lead on, and the node has the distance that is left.
use Rattle.std.proofs.Common.{◌≡◌, Some}
use Rattle.circuit_lint.specs.Distances.{distance_at}
use Rattle.circuit_lint.specs.Ways.{IsPartDown}
use Rattle.circuit_lint.proofs.shorts.go_down.Given as goal

abbrev pub invariant-loop-left : goal.invariant-loop-left
invariant-loop-left l = record {
  far : distance_at l.distance l.node ≡ Some l.left;
  part : IsPartDown l.graph l.from l.node l.fn.way.items l.way.items;
}

abbrev pub decreases-loop-left : goal.decreases-loop-left
decreases-loop-left l = l.left
