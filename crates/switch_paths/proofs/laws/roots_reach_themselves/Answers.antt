-- The law of roots.
use Rattle.switch_paths.proofs.JoinedPaths.{roots_reach}
use Rattle.switch_paths.proofs.laws.roots_reach_themselves.Goals as goal

pub returns : goal.returns
returns c = roots_reach
