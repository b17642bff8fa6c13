-- The law of steps that leave the switches alone.
use Rattle.switch_paths.proofs.RestingSteps.{steps_rest}
use Rattle.switch_paths.proofs.laws.steps_rest.Goals as goal

pub returns : goal.returns
returns c = steps_rest
