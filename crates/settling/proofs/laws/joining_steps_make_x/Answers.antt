-- The node at which it changes something.
use Rattle.settling.proofs.SettlingLemmas.{some_made_x}
use Rattle.settling.proofs.laws.joining_steps_make_x.Goals as goal

pub returns : goal.returns
returns c = some_made_x
