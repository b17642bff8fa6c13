use Rattle.std.proofs.Common.{refl}
use Rattle.column_machines.proofs.column_machine.ColumnMachine.reserve.Goals as goal

pub returns-in-Together-clause-same : goal.returns-in-Together-clause-same
returns-in-Together-clause-same c = rw c.in-Together.is (c.reserve.new.self, refl, c.reserve.ensures.same)

pub returns-in-InTurn-clause-same : goal.returns-in-InTurn-clause-same
returns-in-InTurn-clause-same c = rw c.in-InTurn.is refl
