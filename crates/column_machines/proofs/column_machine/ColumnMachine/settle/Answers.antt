use Rattle.column_machines.proofs.column_machine.ColumnMachine.settle.Goals as goal

pub returns-in-Together-clause-kind : goal.returns-in-Together-clause-kind
returns-in-Together-clause-kind c = rw c.in-Together.is tt

pub returns-in-InTurn-clause-kind : goal.returns-in-InTurn-clause-kind
returns-in-InTurn-clause-kind c = rw c.in-InTurn.is tt
