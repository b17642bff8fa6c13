-- No pair is left.
use Rattle.std.proofs.lemmas.Slice.Zip.{either_empty_from_Zip}
use Rattle.node_values.proofs.GivingLemmas.{none_left}
use Rattle.symbol_giving.proofs.items.paired.Goals as goal

pub returns : goal.returns
returns c =
    none_left c.loop-node.pairs.items _ _ _ c.loop-node.invariant
    (either_empty_from_Zip c.loop-node.node-iterator c.next.new.self c.next.result c.in-None.is c.next.ensures.steps)
