-- The lists so far are empty; then the switches at the places so far are listed.
use Rattle.std.proofs.Common.{◌≡◌, ℕ, [], length}
use Rattle.circuit_lint.specs.Closed.{AreClosedTo, list_at}
use Rattle.circuit_lint.proofs.closed.closed_switches.Given as goal

abbrev pub invariant-loop : goal.invariant-loop
invariant-loop l = record {
  count : length l.lists.items ≡ l.counter;
  none : (node : ℕ) → list_at l.lists.items node ≡ [];
}

abbrev pub invariant-loop-place : goal.invariant-loop-place
invariant-loop-place l = AreClosedTo l.graph l.place l.lists.items
