use Rattle.std.proofs.Common.{subst, arith}
use Rattle.std.proofs.lemmas.Bool.{OnTrue_at}
use Rattle.fault_sim.specs.Masks.{IsSpared}
use Rattle.fault_sim.proofs.MaskLemmas.{spared_more}
use Rattle.fault_sim.proofs.masks.spares.Goals as goal

pub loop-name-preserved : goal.loop-name-preserved
loop-name-preserved c =
    let mask = c.args.mask.now in
    let spared = subst (λ name. IsSpared mask.circuit.now mask.vectors.now mask.stuck name) c.items.ensures
    (OnTrue_at c.if-not-spares_name.false c.spares_name.ensures) in
    spared_more mask.circuit.now mask.vectors.now mask.stuck c.items-name-items.result.now c.loop-name.name-index c.loop-name-item.result
    (omega arith) c.loop-name-item.is spared c.loop-name.invariant
