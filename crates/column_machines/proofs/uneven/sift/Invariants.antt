-- A node that was in the first set is in one of both, or each used column has its state.
use Rattle.std.proofs.Common.{◌≡◌, ℕ, ◌<◌, true, length}
use Rattle.switch_paths.specs.Switching.{state_at}
use Rattle.word_columns.specs.Columns.{is_in_column}
use Rattle.vicinity.specs.NodeSets.{IsIn}
use Rattle.column_machines.specs.Columns.{column_states}
use Rattle.column_machines.proofs.uneven.sift.Given as goal

abbrev pub invariant-loop-node : goal.invariant-loop-node
invariant-loop-node l = record {
  less : length l.uneven.inside ≡ length l.fn.uneven.inside;
  more : length l.stay.inside ≡ length l.fn.stay.inside;
  even : (column node : ℕ) → column < 64 → is_in_column column l.used ≡ true → node < length l.hi → IsIn l.fn.uneven.inside node → (¬ IsIn l.uneven.inside node) →
      (¬ IsIn l.stay.inside node) → state_at (column_states column l.hi l.lo) node ≡ state_at l.state node;
}

abbrev pub decreases-loop-node : goal.decreases-loop-node
decreases-loop-node l = length l.uneven.list
