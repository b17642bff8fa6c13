-- The places so far are listed.
use Rattle.std.proofs.Common.{◌≡◌, length}
use Rattle.switch_paths.specs.Graphs.{nodes}
use Rattle.channel_groups.specs.Listing.{places_of, AreListedTo}
use Rattle.channel_groups.proofs.ends.ends_of.Given as goal

abbrev pub invariant-loop-place : goal.invariant-loop-place
invariant-loop-place l = record {
  firsts_count : length l.ends.firsts.items ≡ nodes l.graph;
  seconds_count : length l.ends.seconds.items ≡ nodes l.graph;
  firsts : AreListedTo (λ switch. switch.a) l.graph l.place (places_of l.ends.firsts.items);
  seconds : AreListedTo (λ switch. switch.b) l.graph l.place (places_of l.ends.seconds.items);
}
