-- See the lemma.
use Rattle.settling.proofs.PassingLemmas.{settling_passes}
use Rattle.settling.proofs.laws.settling_passes.Goals as goal

pub returns : goal.returns
returns c = settling_passes
