-- The machine's step is the stage's.
use Rattle.machine_stage.proofs.ServingLemmas.{fits_stepped, last_stepped, serves_stepped, step_between}
use Rattle.machine_stage.proofs.columns.MachineStageStage.step.Goals as goal

pub step_machine-requires-clause-knows : goal.step_machine-requires-clause-knows
step_machine-requires-clause-knows g c = c.requires.knows tt

pub returns-clause-steps : goal.returns-clause-steps
returns-clause-steps g c = λ column inside. step_between c.args.graph.now c.args.self.now c.step_machine.new.self c.step_machine.ensures.moves

pub returns-clause-last : goal.returns-clause-last
returns-clause-last g c = last_stepped c.args.graph.now c.args.self.now c.step_machine.new.self c.step_machine.ensures.moves

pub returns-clause-serves : goal.returns-clause-serves
returns-clause-serves g c = λ kept serves.
    serves_stepped c.args.graph.now c.args.self.now c.step_machine.new.self c.step_machine.ensures.moves kept c.requires.fits serves

pub returns-clause-fits : goal.returns-clause-fits
returns-clause-fits g c = fits_stepped c.args.graph.now c.args.self.now c.step_machine.new.self c.step_machine.ensures.moves

pub returns-clause-seen : goal.returns-clause-seen
returns-clause-seen g c = λ shown. c.step_machine.ensures.seen

pub returns-clause-knows : goal.returns-clause-knows
returns-clause-knows g c = λ shown. c.step_machine.ensures.knows
