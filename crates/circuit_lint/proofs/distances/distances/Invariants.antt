-- The search has reached so many of the found nodes.
use Rattle.std.proofs.Common.{◌≤◌, ◌-◌, length}
use Rattle.switch_paths.specs.Graphs.{nodes}
use Rattle.circuit_lint.specs.Distances.{IsSearched, HasSpread}
use Rattle.circuit_lint.proofs.distances.distances.Given as goal

abbrev pub invariant-loop-count : goal.invariant-loop-count
invariant-loop-count l = record {
  searched : IsSearched l.graph l.count l.search.distance.items l.search.order.items;
  spread : HasSpread l.graph l.count l.search.distance.items l.search.order.items;
  within : l.count ≤ length l.search.order.items;
}

abbrev pub decreases-loop-count : goal.decreases-loop-count
decreases-loop-count l = nodes l.graph - l.count
