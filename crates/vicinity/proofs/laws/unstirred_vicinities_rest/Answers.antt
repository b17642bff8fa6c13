-- The law of vicinities that aren't stirred.
use Rattle.vicinity.proofs.SleepingNodes.{unstirred_rest}
use Rattle.vicinity.proofs.laws.unstirred_vicinities_rest.Goals as goal

pub returns : goal.returns
returns c = unstirred_rest
