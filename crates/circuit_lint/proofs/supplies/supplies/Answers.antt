-- One node more.
use Rattle.circuit_lint.specs.Supplies.{supply_place}
use Rattle.circuit_lint.proofs.RangeLemmas.{told-more}
use Rattle.circuit_lint.proofs.supplies.supplies.Goals as goal

pub loop-node-preserved : goal.loop-node-preserved
loop-node-preserved c =
    told-more (supply_place c.args.circuit.now) c.loop-node.node _ _ _ c.loop-node.invariant c.supply_at.ensures c.in_ok-push_some.ensures
