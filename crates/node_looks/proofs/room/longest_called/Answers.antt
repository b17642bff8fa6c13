use Rattle.std.proofs.Common.{rules}
use Rattle.node_looks.proofs.LookLemmas.{long-next}
use Rattle.node_looks.proofs.room.longest_called.Goals as goal

pub loop-node-preserved : goal.loop-node-preserved
loop-node-preserved c =
    long-next c.args.circuit.now c.loop-node.node c.loop-node.most _ c.name_of.result.now c.name_of.ensures.name (search rules) (search rules)
    c.loop-node.invariant
