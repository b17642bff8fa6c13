-- The stage's step is that of its one column.
use Rattle.std.proofs.Common.{arith}
use Rattle.fault_stage.proofs.moving.step_whole.Goals as goal

pub step-requires-clause-knows : goal.step-requires-clause-knows
step-requires-clause-knows g c = λ shows. c.requires.knows

pub returns-clause-step : goal.returns-clause-step
returns-clause-step g c = c.step.ensures.steps 0 (omega arith)

pub returns-clause-stays : goal.returns-clause-stays
returns-clause-stays g c = record { last = c.step.ensures.last; serves = c.step.ensures.serves; fits = λ fits. c.step.ensures.fits }

pub returns-clause-seen : goal.returns-clause-seen
returns-clause-seen g c = c.step.ensures.seen tt

pub returns-clause-knows : goal.returns-clause-knows
returns-clause-knows g c = c.step.ensures.knows tt
