-- The laws of steps in columns.
use Rattle.machine_laws.proofs.FittingLemmas.{columns_step_apart, columns_join_apart}
use Rattle.machine_laws.proofs.laws.columns_step_apart.Goals as goal

pub returns-clause-plain : goal.returns-clause-plain
returns-clause-plain c = columns_step_apart

pub returns-clause-joining : goal.returns-clause-joining
returns-clause-joining c = columns_join_apart
