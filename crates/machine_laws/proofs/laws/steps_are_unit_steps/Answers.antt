-- The laws of steps.
use Rattle.machine_laws.proofs.FittingLemmas.{steps_are_unit_steps, joining_steps_are_join_steps}
use Rattle.machine_laws.proofs.laws.steps_are_unit_steps.Goals as goal

pub returns-clause-plain : goal.returns-clause-plain
returns-clause-plain c = steps_are_unit_steps

pub returns-clause-joining : goal.returns-clause-joining
returns-clause-joining c = joining_steps_are_join_steps
