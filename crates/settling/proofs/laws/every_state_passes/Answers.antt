-- See the lemma.
use Rattle.settling.proofs.PassingLemmas.{every_state_passes}
use Rattle.settling.proofs.laws.every_state_passes.Goals as goal

pub returns : goal.returns
returns c = every_state_passes
