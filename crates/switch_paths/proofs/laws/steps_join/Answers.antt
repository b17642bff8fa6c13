-- The law of joined states.
use Rattle.switch_paths.proofs.JoinedSteps.{steps_join}
use Rattle.switch_paths.proofs.laws.steps_join.Goals as goal

pub returns : goal.returns
returns c = steps_join
