-- The laws of what a record has of phases and steps.
use Rattle.beside_phases.proofs.RecordedLemmas.{phases_recorded, steps_recorded, phases_stay}
use Rattle.beside_phases.proofs.laws.phases_are_recorded.Goals as goal

pub returns-clause-phases : goal.returns-clause-phases
returns-clause-phases c = phases_recorded

pub returns-clause-steps : goal.returns-clause-steps
returns-clause-steps c = steps_recorded

pub returns-clause-stay : goal.returns-clause-stay
returns-clause-stay c = phases_stay
