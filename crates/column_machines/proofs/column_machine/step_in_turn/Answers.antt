-- Without a limit a column's move is a unit step.
use Rattle.std.proofs.Common.{false}
use Rattle.column_machines.proofs.column_machine.step_in_turn.Goals as goal

pub returns-clause-step : goal.returns-clause-step
returns-clause-step c = λ fits column inside. c.run.ensures.moved fits column (record { steps = 0; joined = false }) inside
