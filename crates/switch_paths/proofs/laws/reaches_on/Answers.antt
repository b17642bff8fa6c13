-- The law of joined paths.
use Rattle.switch_paths.proofs.JoinedPaths.{reach_on}
use Rattle.switch_paths.proofs.laws.reaches_on.Goals as goal

pub returns : goal.returns
returns c = reach_on
