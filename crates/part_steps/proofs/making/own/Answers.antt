-- One node more is owned.
use Rattle.std.proofs.Common.{◌<◌, get_or, length, refl, arith}
use Rattle.machine_parts.proofs.MakingLemmas.{Owns-more}
use Rattle.part_steps.proofs.making.own.Goals as goal

pub loop-node-preserved : goal.loop-node-preserved
loop-node-preserved c =
    let members = c.args.members.now in
    let i = c.loop-node.node-index in
    let inside : get_or members i 0 < length c.loop-node.owners = omega (arith, c.requires i 0 c.loop-node-test.true, c.loop-node.auto.owners) in
    Owns-more c.args.k members i (get_or members i 0) c.args.owners.now c.loop-node.owners c.loop-node-test.true refl inside c.loop-node.invariant
