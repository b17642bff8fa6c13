-- The lists so far are empty.
use Rattle.std.proofs.Common.{◌≡◌, ℕ, [], length}
use Rattle.channel_groups.specs.Listing.{places_of}
use Rattle.channel_groups.proofs.ends.no_places.Given as goal

abbrev pub invariant-loop : goal.invariant-loop
invariant-loop l = record {
  count : length l.lists.items ≡ l.counter;
  none : (node : ℕ) → places_of l.lists.items node ≡ [];
}
