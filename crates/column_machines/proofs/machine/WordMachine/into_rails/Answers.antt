use Rattle.column_machines.proofs.machine.WordMachine.into_rails.Goals as goal

pub returns-clause-columns_are : goal.returns-clause-columns_are
returns-clause-columns_are c = rw (← c.self.view_is) c.self.invariant.0.columns_are
