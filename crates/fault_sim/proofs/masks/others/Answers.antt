use Rattle.std.proofs.Common.{arith}
use Rattle.fault_sim.proofs.MaskLemmas.{charges_more}
use Rattle.fault_sim.proofs.masks.others.Goals as goal

pub loop-name-preserved : goal.loop-name-preserved
loop-name-preserved c =
    let mask = c.args.mask.now in
    charges_more mask.circuit.now mask.vectors.now mask.stuck c.items-name-items.result.now c.loop-name.left c.put_other.new.left c.loop-name.name-index
    c.loop-name-item.result c.items.result.now (omega arith) c.loop-name-item.is c.items.ensures c.loop-name.invariant c.in_ok-put_other.ensures
