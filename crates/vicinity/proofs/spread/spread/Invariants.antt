-- Each node that isn't left has nothing more to bring; what was paid and is owed doesn't rise.
use Rattle.std.proofs.Common.{◌≡◌, ℕ, ◌+◌, ◌≤◌, length}
use Rattle.std.specs.Prelude.{slice_index}
use Rattle.vicinity.specs.NodeSets.{IsIn}
use Rattle.vicinity.specs.Entries.{AreWays, IsSpreadFrom}
use Rattle.vicinity.specs.Spreading.{owed}
use Rattle.vicinity.proofs.spread.spread.Given as goal

abbrev pub invariant-loop-node : goal.invariant-loop-node
invariant-loop-node g l = record {
  count : length l.table ≡ length l.fn.table;
  left : length l.left.inside ≡ length l.fn.left.inside;
  grows : (node : ℕ) → slice_index l.fn.table node ≤ slice_index l.table node;
  ways : AreWays l.by.pass l.by.graph.now l.by.state.now l.by.awake.now.inside l.table;
  within : (node : ℕ) → IsIn l.left.inside node → IsIn l.by.awake.now.inside node;
  rest : (node : ℕ) → IsIn l.by.awake.now.inside node → ¬ IsIn l.left.inside node →
      IsSpreadFrom l.by.pass l.by.graph.now l.by.state.now l.by.awake.now.inside l.by.floor.now l.table node;
  steps : l.steps + owed l.by.lists.now l.by.awake.now.inside l.table l.left.inside
      ≤ l.fn.steps + owed l.by.lists.now l.by.awake.now.inside l.fn.table l.fn.left.inside;
}

abbrev pub decreases-loop-node : goal.decreases-loop-node
decreases-loop-node g l = owed l.by.lists.now l.by.awake.now.inside l.table l.left.inside
