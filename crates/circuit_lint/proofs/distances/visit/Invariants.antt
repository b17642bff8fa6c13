-- The places so far were looked at.
use Rattle.std.proofs.Common.{ℕ, take, Contains}
use Rattle.std.specs.Prelude.{slice_index}
use Rattle.switch_paths.specs.Graphs.{IsStorage}
use Rattle.circuit_lint.specs.Conducting.{IsClosedAcross}
use Rattle.circuit_lint.specs.Distances.{IsSearched, Keeps, IsFound}
use Rattle.circuit_lint.proofs.distances.visit.Given as goal

abbrev pub invariant-loop-place : goal.invariant-loop-place
invariant-loop-place l = record {
  searched : IsSearched l.graph l.count l.search.distance.items l.search.order.items;
  keeps : Keeps l.fn.search.distance.items l.search.distance.items l.fn.search.order.items l.search.order.items;
  found : (place node : ℕ) → Contains (take l.place-index l.places) place → IsStorage l.graph node →
      IsClosedAcross l.graph place (slice_index l.fn.search.order.items l.count) node → IsFound l.search.distance.items node;
}
