-- And there is no other.
use Rattle.switch_paths.proofs.UniqueSteps.{unique}
use Rattle.switch_paths.proofs.laws.step_is_unique.Goals as goal

pub returns : goal.returns
returns c = unique
