-- They are the machine's, whatever it is.
use Rattle.column_machines.proofs.column_machine.ColumnMachine.into_rails.Goals as goal

pub returns-in-Together : goal.returns-in-Together
returns-in-Together c =
    let e = c.into_rails.ensures in rw c.in-Together.is (record { highs = e.highs; lows = e.lows; columns_are = e.columns_are })

pub returns-in-InTurn : goal.returns-in-InTurn
returns-in-InTurn c =
    let e = c.into_rails-in-InTurn.ensures in rw c.in-InTurn.is (record { highs = e.highs; lows = e.lows; columns_are = e.columns_are })
