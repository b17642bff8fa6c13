-- The nodes so far have their rails.
use Rattle.std.proofs.Common.{◌+◌, ◌*◌, ◌≤◌}
use Rattle.ternary.specs.Tern.{may_one, may_zero}
use Rattle.bool_pool.specs.Gate.{Extends}
use Rattle.node_elimination.specs.Inputs.{AreRails}
use Rattle.node_elimination.proofs.inputs.rails_of_nodes.Given as goal

abbrev pub invariant-loop-node : goal.invariant-loop-node
invariant-loop-node g l = record {
  extends : Extends l.initial.pool l.pool;
  hi : AreRails may_one (λ node. 2 * node) l.constants l.node l.pool l.hi.items;
  lo : AreRails may_zero (λ node. 2 * node + 1) l.constants l.node l.pool l.lo.items;
  rises : l.initial.steps ≤ l.steps;
  few : l.steps ≤ l.initial.steps + 2 * l.node;
}
