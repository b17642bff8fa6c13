-- One node more has no owner.
use Rattle.std.proofs.Common.{◌<◌, get_or, length, refl, arith}
use Rattle.unit_step.proofs.LeavingLemmas.{Disowns-more}
use Rattle.unit_step.proofs.seating.disown.Goals as goal

pub loop-node-preserved : goal.loop-node-preserved
loop-node-preserved c =
    let members = c.args.members.now in
    let i = c.loop-node.node-index in
    let inside : get_or members i 0 < length c.loop-node.owners = omega (arith, c.requires i 0 c.loop-node-test.true, c.loop-node.auto.owners) in
    Disowns-more members i (get_or members i 0) c.args.owners.now c.loop-node.owners c.loop-node-test.true refl inside c.loop-node.invariant
