-- The places so far were looked at.
use Rattle.std.proofs.Common.{◌≡◌, ◌+◌, ◌≤◌, Some, length, filter, take, Contains}
use Rattle.channel_groups.specs.Listing.{is_other}
use Rattle.channel_groups.specs.Flood.{Sees}
use Rattle.channel_groups.proofs.flood.look_along.Given as goal

abbrev pub invariant-loop-place : goal.invariant-loop-place
invariant-loop-place g l = record {
  sees : Sees l.graph l.node (λ place. Contains (take l.place-index l.places) place × ¬ (l.changed ≡ Some place))
      l.initial.flood.nodes.keys l.flood.nodes.keys l.initial.flood.places.items l.flood.places.items;
  steps : l.steps ≤ l.initial.steps + length (filter (is_other l.changed) (take l.place-index l.places));
}
