-- One group more.
use Rattle.circuit_lint.specs.Sides.{sides_of}
use Rattle.channel_groups.proofs.HeldLemmas.{group_of_id}
use Rattle.circuit_lint.proofs.RangeLemmas.{mapped-more}
use Rattle.circuit_lint.proofs.sides.all_sides.Goals as goal

pub loop-id-preserved : goal.loop-id-preserved
loop-id-preserved c =
    let groups = c.args.groups.now.groups in
    let here = group_of_id groups c.requires.groups.ascending c.args.ids.now c.requires.ids c.loop-id.id-index _ c.loop-id-test.true c.group.result.now c.group.ensures in
    mapped-more (sides_of c.args.graph.now) groups c.loop-id.id-index c.group.result.now c.sides_of.result _ _ here.0 here.1 c.loop-id.invariant
    c.sides_of.ensures c.in_ok-push.ensures.items
