-- So far each place was noted, or is alike.
use Rattle.std.proofs.Common.{◌≡◌, ℕ, ◌<◌, ◌⊎◌}
use Rattle.std.specs.Prelude.{Contains}
use Rattle.switch_paths.specs.Graphs.{place_at}
use Rattle.edits_between.specs.declared.differing.Spot.TheVariants.{Place}
use Rattle.edits_between.proofs.differing.note_places.Given as goal

abbrev pub invariant-loop-place : goal.invariant-loop-place
invariant-loop-place l = (k : ℕ) → k < l.place → Contains l.spots.items (Place k) ⊎ (place_at l.one.places k ≡ place_at l.other.places k)
