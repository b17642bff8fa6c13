-- So far the nodes that were passed have moved, and the next states of the storage nodes among them are used up.
use Rattle.std.proofs.Common.{◌≡◌, ℕ, ◌<◌, length}
use Rattle.switch_paths.specs.Switching.{state_at}
use Rattle.linear_code.specs.Listing.{storage_before, next_of}
use Rattle.linear_code.proofs.listing.Listing.step.Given as goal

abbrev pub invariant-loop-node : goal.invariant-loop-node
invariant-loop-node l = record {
  count : length l.next.items ≡ l.node;
  each : (k : ℕ) → k < l.node → state_at l.next.items k ≡ next_of l.self l.state k;
  moved : l.moved ≡ storage_before l.self.entries l.node;
}
