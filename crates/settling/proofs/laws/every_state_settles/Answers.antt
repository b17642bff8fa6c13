-- Every state settles.
use Rattle.settling.proofs.SettlingExists.{every_state}
use Rattle.settling.proofs.laws.every_state_settles.Goals as goal

pub returns : goal.returns
returns c = every_state
