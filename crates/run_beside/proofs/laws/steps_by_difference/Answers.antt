-- The law of a step that is taken by difference.
use Rattle.run_beside.proofs.DifferenceSteps.{steps_by_difference}
use Rattle.run_beside.proofs.laws.steps_by_difference.Goals as goal

pub returns : goal.returns
returns c = steps_by_difference
