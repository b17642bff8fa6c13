-- One node more.
use Rattle.std.proofs.Common.{arith, refl}
use Rattle.std.proofs.lemmas.List.Elements.{Contains-get_or}
use Rattle.machine_parts.proofs.MarkLemmas.{MarksAll-more}
use Rattle.unit_step.proofs.holding.put_all.Goals as goal

pub insert-requires : goal.insert-requires
insert-requires c =
    let inside = c.requires _ (Contains-get_or c.args.nodes.now c.loop-node.node-index 0 c.loop-node-test.true) in
    omega (arith, inside, c.loop-node.invariant.marks.count)

pub loop-node-preserved : goal.loop-node-preserved
loop-node-preserved c =
    let inside = c.requires _ (Contains-get_or c.args.nodes.now c.loop-node.node-index 0 c.loop-node-test.true) in
    record {
      marks = rw c.insert.ensures.inside
          (MarksAll-more c.args.nodes.now c.loop-node.node-index _ c.args.set.now.inside c.loop-node.set.inside c.loop-node-test.true refl
          (omega (arith, inside, c.loop-node.invariant.marks.count)) c.loop-node.invariant.marks);
    }
