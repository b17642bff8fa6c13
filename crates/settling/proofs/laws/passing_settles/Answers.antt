-- See the lemma.
use Rattle.settling.proofs.PassingLemmas.{passing_settles}
use Rattle.settling.proofs.laws.passing_settles.Goals as goal

pub returns : goal.returns
returns c = passing_settles
