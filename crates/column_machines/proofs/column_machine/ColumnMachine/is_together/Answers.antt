use Rattle.column_machines.proofs.column_machine.ColumnMachine.is_together.Goals as goal

pub returns-in-Together-clause-yes : goal.returns-in-Together-clause-yes
returns-in-Together-clause-yes c = rw c.in-Together.is tt

pub returns-in-InTurn-clause-no : goal.returns-in-InTurn-clause-no
returns-in-InTurn-clause-no c = rw c.in-InTurn.is tt
