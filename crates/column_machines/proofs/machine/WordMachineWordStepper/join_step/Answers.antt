-- In each column a joining step is the graph's joining step on a graph that the machine fits.
use Rattle.std.proofs.Common.{refl}
use Rattle.column_machines.proofs.FittingLemmas.{IsJoinStep-in_column}
use Rattle.column_machines.proofs.machine.WordMachineWordStepper.join_step.Goals as goal

pub returns-clause-step : goal.returns-clause-step
returns-clause-step c = λ fits. IsJoinStep-in_column _ c.step_on.ensures.wired _ _ _ c.step_on.ensures.steps fits

pub returns-clause-unknown : goal.returns-clause-unknown
returns-clause-unknown c = λ column inside. (c.step_on.ensures.steps.each column inside).unknown refl
