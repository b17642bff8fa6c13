-- No node so far has the level.
use Rattle.std.proofs.Common.{ℕ, ◌<◌, ◌≢◌}
use Rattle.switch_paths.specs.Graphs.{level_of}
use Rattle.node_elimination.proofs.descent.has_node.Given as goal

abbrev pub invariant-loop-node : goal.invariant-loop-node
invariant-loop-node l = (n : ℕ) → n < l.node → level_of l.graph n ≢ l.level
