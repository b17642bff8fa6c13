-- The nodes so far have their levels or are input nodes; the others have their levels.
use Rattle.std.proofs.Common.{◌≡◌, ◌<◌, ℕ}
use Rattle.strength_order.specs.declared.TheConstants.{INPUT_LEVEL}
use Rattle.switch_paths.specs.Graphs.{nodes, level_of}
use Rattle.vicinity.specs.NodeSets.{IsIn}
use Rattle.wide_groups.proofs.confined.confine_nodes.Given as goal

abbrev pub invariant-loop-node : goal.invariant-loop-node
invariant-loop-node l = record {
  count : nodes l.graph ≡ nodes l.fn.graph;
  places : l.graph.places ≡ l.fn.graph.places;
  stays : (n : ℕ) → IsIn l.members.inside n → level_of l.graph n ≡ level_of l.fn.graph n;
  edge : (n : ℕ) → n < l.node → (¬ IsIn l.members.inside n) → level_of l.graph n ≡ INPUT_LEVEL;
}
