use Rattle.column_machines.proofs.turns.TurnMachine.into_rails.Goals as goal

pub returns-clause-columns_are : goal.returns-clause-columns_are
returns-clause-columns_are c = rw (← c.self.view_is) c.self.invariant.is.columns_are
