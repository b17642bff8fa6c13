-- The places so far have their widths.
use Rattle.std.proofs.Common.{◌≡◌, ℕ, ◌<◌, slice_index}
use Rattle.switch_paths.specs.Graphs.{place_at}
use Rattle.switch_paths.specs.Spread.{width}
use Rattle.switch_paths.proofs.spread.put_widths.Given as goal

abbrev pub invariant-loop-place : goal.invariant-loop-place
invariant-loop-place l =
    (place : ℕ) → place < l.place → slice_index l.widths place ≡ width l.sure l.state (place_at l.places place)
