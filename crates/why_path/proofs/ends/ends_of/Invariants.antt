-- The places so far are in the lists of both ends of their switches.
use Rattle.std.proofs.Common.{◌≡◌, ℕ, ◌<◌, length, Some}
use Rattle.std.specs.Prelude.{Contains}
use Rattle.switch_paths.specs.declared.switching.Switch.{Switch}
use Rattle.switch_paths.specs.Graphs.{nodes, place_at}
use Rattle.why_path.specs.Search.{list_at}
use Rattle.why_path.proofs.ends.ends_of.Given as goal

abbrev pub invariant-loop-place : goal.invariant-loop-place
invariant-loop-place l = record {
  count : length l.ends.items ≡ nodes l.graph;
  below : (place : ℕ) (switch : Switch) → place < l.place → place_at l.graph.places place ≡ Some switch →
      Contains (list_at l.ends.items switch.a) place × Contains (list_at l.ends.items switch.b) place;
}
