-- The build leaves the states, and the step is each column's.
use Rattle.column_machine_stage.proofs.MovingLemmas.{step_led}
use Rattle.column_machine_stage.proofs.laws.steps_step_each_column.Goals as goal

pub returns : goal.returns
returns c = step_led
