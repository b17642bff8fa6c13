-- The function that was made so far is one of the graph.
use Rattle.std.proofs.Common.{◌<◌, ◌≤◌, length}
use Rattle.tests_symbol.proofs.graphs.all_true.Given as goal

abbrev pub invariant-loop-left : goal.invariant-loop-left
invariant-loop-left l = record {
  inside : l.all.place < length l.graph.vertices;
  few : l.left ≤ l.graph.variables;
}

abbrev pub decreases-loop-left : goal.decreases-loop-left
decreases-loop-left l = l.left
