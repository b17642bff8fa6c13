-- A step exists.
use Rattle.switch_paths.proofs.ExistingSteps.{exists}
use Rattle.switch_paths.proofs.laws.step_exists.Goals as goal

pub returns : goal.returns
returns c = exists
