-- So far there is no place.
use Rattle.std.proofs.Common.{◌≡◌, ℕ, length, None, get_or}
use Rattle.decision_graph.proofs.compact.no_functions.Given as goal

abbrev pub invariant-loop-done : goal.invariant-loop-done
invariant-loop-done l = record {
  count : length l.moved.items ≡ l._done;
  none : (k : ℕ) → get_or l.moved.items k None ≡ None;
}
