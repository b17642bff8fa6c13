-- The places so far have a switch only with an end in the set; the others have what they had.
use Rattle.std.proofs.Common.{◌≡◌, ◌<◌, ◌≤◌, ℕ, length, Some}
use Rattle.switch_paths.specs.declared.switching.Switch.{Switch}
use Rattle.switch_paths.specs.Graphs.{place_at}
use Rattle.wide_groups.specs.Confined.{HasEndIn}
use Rattle.wide_groups.proofs.confined.confine_places.Given as goal

abbrev pub invariant-loop-place : goal.invariant-loop-place
invariant-loop-place l = record {
  levels : l.graph.levels ≡ l.fn.graph.levels;
  count : length l.graph.places ≡ length l.fn.graph.places;
  later : (p : ℕ) → l.place ≤ p → place_at l.graph.places p ≡ place_at l.fn.graph.places p;
  kept : (p : ℕ) (switch : Switch) → place_at l.fn.graph.places p ≡ Some switch → HasEndIn l.members.inside switch →
      place_at l.graph.places p ≡ Some switch;
  only : (p : ℕ) (switch : Switch) → p < l.place → place_at l.graph.places p ≡ Some switch →
      (place_at l.fn.graph.places p ≡ Some switch) × HasEndIn l.members.inside switch;
}
