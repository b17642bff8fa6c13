-- Only empty lists are added.
use Rattle.std.proofs.Common.{◌≡◌, ℕ, ◌-◌, ◌≤◌, length}
use Rattle.channel_groups.specs.Listing.{places_of}
use Rattle.channel_groups.proofs.ends.grow_lists.Given as goal

abbrev pub invariant-loop-alloc : goal.invariant-loop-alloc
invariant-loop-alloc l = record {
  same : (n : ℕ) → places_of l.lists.items n ≡ places_of l.initial.lists.items n;
  longer : length l.initial.lists.items ≤ length l.lists.items;
}

abbrev pub decreases-loop-alloc : goal.decreases-loop-alloc
decreases-loop-alloc l = l.count - length l.lists.items
