-- The hops so far.
use Rattle.std.proofs.Common.{◌≡◌, map, take, slice_index}
use Rattle.why_path.proofs.near.whole_walk.Given as goal

abbrev pub invariant-loop-place : goal.invariant-loop-place
invariant-loop-place l = l.hops.items ≡ map (slice_index l.switches) (take l.place-index l.place-items)
