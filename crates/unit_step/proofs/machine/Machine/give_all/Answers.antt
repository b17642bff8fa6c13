-- One node more is given its state.
use Rattle.std.proofs.Common.{refl, ◌∙◌, arith}
use Rattle.unit_step.proofs.RestartingLemmas.{StaysOn-same, GivesBelow-more, marked_still}
use Rattle.unit_step.proofs.machine.Machine.give_all.Goals as goal

pub loop-node-init : goal.loop-node-init
loop-node-init c = record {
  gives = record { stays = StaysOn-same c.args.graph.now c.args.self.now; given = c.requires.rails };
  marks = refl;
  low = omega arith;
}

pub give-requires-clause-inside : goal.give-requires-clause-inside
give-requires-clause-inside c = omega (arith, c.loop-node-test.true, c.loop-node.invariant.gives.stays.count, c.requires.counted)

pub give-requires-clause-no_rail : goal.give-requires-clause-no_rail
give-requires-clause-no_rail c = c.loop-node.invariant.low

pub give-requires-clause-marked : goal.give-requires-clause-marked
give-requires-clause-marked c =
    marked_still c.args.graph.now c.args.state.now c.loop-node.node c.args.self.now c.loop-node.self c.requires.marked c.loop-node.invariant.gives
    c.loop-node.invariant.marks

pub loop-node-preserved : goal.loop-node-preserved
loop-node-preserved c = record {
  gives = GivesBelow-more c.args.graph.now c.args.state.now c.loop-node.node c.args.self.now c.loop-node.self c.give.new.self c.loop-node.invariant.gives
      c.give.ensures.gives;
  marks = c.give.ensures.marks ∙ c.loop-node.invariant.marks;
  low = omega (arith, c.loop-node.invariant.low);
}

pub returns-clause-gives : goal.returns-clause-gives
returns-clause-gives c =
    let all = c.loop-node.invariant.gives in
    record { stays = all.stays; given = λ node inside. all.given node (omega (arith, inside, c.loop-node-test.false)) }

pub returns-clause-marks : goal.returns-clause-marks
returns-clause-marks c = c.loop-node.invariant.marks
