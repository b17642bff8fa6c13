-- The stage's step is that of its one column.
use Rattle.fault_stage.proofs.columns.FaultStageStage.step.Goals as goal

pub take_step-requires-clause-knows : goal.take_step-requires-clause-knows
take_step-requires-clause-knows g c = c.requires.knows tt

pub returns-clause-steps : goal.returns-clause-steps
returns-clause-steps g c = λ column inside. c.take_step.ensures.step

pub returns-clause-last : goal.returns-clause-last
returns-clause-last g c = c.take_step.ensures.stays.last

pub returns-clause-serves : goal.returns-clause-serves
returns-clause-serves g c = c.take_step.ensures.stays.serves

pub returns-clause-fits : goal.returns-clause-fits
returns-clause-fits g c = c.take_step.ensures.stays.fits c.requires.fits

pub returns-clause-seen : goal.returns-clause-seen
returns-clause-seen g c = λ shows. c.take_step.ensures.seen

pub returns-clause-knows : goal.returns-clause-knows
returns-clause-knows g c = λ shows. c.take_step.ensures.knows
