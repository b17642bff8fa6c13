-- The place is the last of the node's list.
use Rattle.circuit_lint.proofs.ClosedLemmas.{HasPut-written}
use Rattle.circuit_lint.proofs.closed.list_at_node.Goals as goal

pub returns : goal.returns
returns c =
    HasPut-written c.args.lists.now.items c.args.node c.args.place c.index_mut.result.now c.push.new.self c.requires c.index_mut.ensures.value
    c.in_ok-push.ensures.items
