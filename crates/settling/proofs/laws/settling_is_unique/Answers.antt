-- And there is no other.
use Rattle.settling.proofs.UniqueSettling.{settling_is_unique}
use Rattle.settling.proofs.laws.settling_is_unique.Goals as goal

pub returns : goal.returns
returns c = settling_is_unique
