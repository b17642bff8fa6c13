-- The law of members that are asleep.
use Rattle.vicinity.proofs.SleepingNodes.{asleep_rest}
use Rattle.vicinity.proofs.laws.asleep_members_rest.Goals as goal

pub returns : goal.returns
returns c = asleep_rest
