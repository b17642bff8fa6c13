-- One node more.
use Rattle.std.proofs.Common.{◌∙◌, length, arith}
use Rattle.beside_run.proofs.DifferingLemmas.{concerned_all, concerned_more, concerned_none}
use Rattle.beside_run.proofs.differing.put_differing.Goals as goal

pub loop-node-init : goal.loop-node-init
loop-node-init c = record { marks = concerned_none c.args.machine.now c.args.good.now c.args.apart.now.inside }

pub put_if_differs-requires : goal.put_if_differs-requires
put_if_differs-requires c = record {
  inside = omega (arith, c.loop-node-test.true);
  counted = c.requires.counted;
  apart = c.loop-node.invariant.marks.count ∙ c.requires.apart;
}

pub loop-node-preserved : goal.loop-node-preserved
loop-node-preserved c = record {
  marks = concerned_more c.args.machine.now c.args.good.now c.loop-node.node c.args.apart.now.inside c.loop-node.apart.inside c.put_if_differs.new.apart.inside
      c.loop-node.invariant.marks c.put_if_differs.ensures;
}

pub returns : goal.returns
returns c =
    concerned_all c.args.machine.now c.args.good.now c.loop-node.node (length c.args.good.now) c.args.apart.now.inside c.loop-node.apart.inside
    (omega (arith, c.loop-node.auto.node-end, c.loop-node-test.false)) c.loop-node.invariant.marks
