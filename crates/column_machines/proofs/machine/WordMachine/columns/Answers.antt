-- The machine has states in each column.
use Rattle.std.proofs.Common.{subst}
use Rattle.column_machines.specs.Columns.{WordData}
use Rattle.column_machines.specs.Running.{AreColumns}
use Rattle.column_machines.proofs.machine.WordMachine.columns.Goals as goal

pub returns-clause-columns_are : goal.returns-clause-columns_are
returns-clause-columns_are c = subst (λ (m : WordData). AreColumns m.columns m.hi m.lo) c.self.view_is c.self.invariant.0.columns_are
