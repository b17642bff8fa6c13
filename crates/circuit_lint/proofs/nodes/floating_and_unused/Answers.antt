-- One node more.
use Rattle.std.proofs.Common.{Some, None, if◌then◌else◌}
use Rattle.circuit_lint.specs.Nodes.{floating_at, is_unused}
use Rattle.circuit_lint.proofs.RangeLemmas.{told-more}
use Rattle.circuit_lint.proofs.nodes.floating_and_unused.Goals as goal

pub loop-node-preserved : goal.loop-node-preserved
loop-node-preserved c =
    let so_far = c.loop-node.invariant in
    let g = c.args.graph.now in
    record {
      floating = told-more (floating_at g) c.loop-node.node _ _ _ so_far.floating c.floating_at.ensures c.in_ok-push_some.ensures;
      unused = told-more (λ node. if is_unused g node then Some node else None) c.loop-node.node _ _ _ so_far.unused c.unused_at.ensures
          c.in_ok-push_some-2.ensures;
    }
