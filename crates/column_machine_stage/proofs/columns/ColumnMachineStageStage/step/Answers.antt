-- Each column took the step that the machine took.
use Rattle.column_machine_stage.proofs.ServingLemmas.{last_moved, serves_moved}
use Rattle.column_machine_stage.proofs.columns.ColumnMachineStageStage.step.Goals as goal

pub returns-clause-columns : goal.returns-clause-columns
returns-clause-columns g c = c.step_machine.ensures.moves.columns

pub returns-clause-steps : goal.returns-clause-steps
returns-clause-steps g c = c.step_machine.ensures.moves.each

pub returns-clause-serves : goal.returns-clause-serves
returns-clause-serves g c = λ kept serves.
    serves_moved c.args.graph.now c.args.self.now c.step_machine.new.self c.requires.fits c.step_machine.ensures.moves.fits c.step_machine.ensures.moves.kind kept
    c.step_machine.ensures.large serves

pub returns-clause-fits : goal.returns-clause-fits
returns-clause-fits g c = c.step_machine.ensures.moves.fits

pub returns-clause-did : goal.returns-clause-did
returns-clause-did g c = c.step_machine.ensures.moves

pub returns-clause-last : goal.returns-clause-last
returns-clause-last g c =
    last_moved c.args.graph.now c.args.self.now c.step_machine.new.self c.requires.fits c.step_machine.ensures.moves.fits c.step_machine.ensures.moves.kind

-- it shows no states
pub returns-clause-seen : goal.returns-clause-seen
returns-clause-seen g c = λ shows. absurd shows

pub returns-clause-knows : goal.returns-clause-knows
returns-clause-knows g c = λ shows. absurd shows
