-- In each column a step is the unit step on a graph that the machine fits.
use Rattle.column_machines.proofs.FittingLemmas.{IsStep-in_column}
use Rattle.column_machines.proofs.machine.WordMachineWordStepper.step.Goals as goal

pub returns-clause-step : goal.returns-clause-step
returns-clause-step c = λ fits. IsStep-in_column _ c.step_on.ensures.wired _ _ _ c.step_on.ensures.steps fits
