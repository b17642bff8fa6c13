use Rattle.std.proofs.Common.{subst}
use Rattle.column_machines.specs.Turns.{IsTurnMachine}
use Rattle.column_machines.proofs.turns.TurnMachine.columns.Goals as goal

pub returns-clause-few : goal.returns-clause-few
returns-clause-few c = c.self.invariant.is.few

pub returns-clause-is : goal.returns-clause-is
returns-clause-is c = subst IsTurnMachine c.self.view_is c.self.invariant.is
