-- Each column settled as the machine did.
use Rattle.std.proofs.Common.{false}
use Rattle.column_machine_stage.proofs.MovingLemmas.{settle_together}
use Rattle.column_machine_stage.proofs.ServingLemmas.{last_moved, serves_moved}
use Rattle.column_machine_stage.proofs.columns.ColumnMachineStageStage.settle.Goals as goal

pub returns-clause-columns : goal.returns-clause-columns
returns-clause-columns g c = (c.settle_machine.ensures.moves (record { steps = 0; joined = false })).columns

pub returns-clause-settles : goal.returns-clause-settles
returns-clause-settles g c = λ column past inside. (c.settle_machine.ensures.moves past).each column inside

pub returns-clause-serves : goal.returns-clause-serves
returns-clause-serves g c = λ kept serves.
    let moves = c.settle_machine.ensures.moves (record { steps = 0; joined = false }) in
    serves_moved c.args.graph.now c.args.self.now c.settle_machine.new.self c.requires.fits moves.fits moves.kind kept c.settle_machine.ensures.large serves

pub returns-clause-fits : goal.returns-clause-fits
returns-clause-fits g c = (c.settle_machine.ensures.moves (record { steps = 0; joined = false })).fits

pub returns-clause-did : goal.returns-clause-did
returns-clause-did g c =
    settle_together c.args.graph.now c.args.limit c.settle_machine.new.counts c.args.self.now c.settle_machine.new.self c.settle_machine.ensures.moves

pub returns-clause-last : goal.returns-clause-last
returns-clause-last g c =
    let moves = c.settle_machine.ensures.moves (record { steps = 0; joined = false }) in
    last_moved c.args.graph.now c.args.self.now c.settle_machine.new.self c.requires.fits moves.fits moves.kind

-- it shows no states
pub returns-clause-seen : goal.returns-clause-seen
returns-clause-seen g c = λ past shows. absurd shows

pub returns-clause-knows : goal.returns-clause-knows
returns-clause-knows g c = λ shows. absurd shows
