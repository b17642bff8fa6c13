-- The flood has looked from so many nodes, and ticked for each of them and for each place at them.
use Rattle.std.proofs.Common.{◌+◌, ◌-◌, ◌*◌, ◌≤◌, length, take}
use Rattle.std.specs.List.{flat_map}
use Rattle.switch_paths.specs.Graphs.{nodes}
use Rattle.channel_groups.specs.Listing.{places_of, others_at}
use Rattle.channel_groups.specs.Flood.{IsFlooding}
use Rattle.channel_groups.proofs.flood.group_at.Given as goal

abbrev pub invariant-loop-count : goal.invariant-loop-count
invariant-loop-count g l = record {
  flooding : IsFlooding l.graph l.root l.count l.flood.nodes.keys l.flood.places.items;
  within : l.count ≤ length l.flood.nodes.keys;
  steps : l.steps ≤ l.initial.steps + 2 * l.count
      + length (flat_map (others_at l.changed (places_of l.ends.firsts.items)) (take l.count l.flood.nodes.keys))
      + length (flat_map (others_at l.changed (places_of l.ends.seconds.items)) (take l.count l.flood.nodes.keys));
}

abbrev pub decreases-loop-count : goal.decreases-loop-count
decreases-loop-count g l = nodes l.graph - l.count
