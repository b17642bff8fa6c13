-- See the lemma.
use Rattle.settling.proofs.PassingLemmas.{passing_is_unique}
use Rattle.settling.proofs.laws.passing_is_unique.Goals as goal

pub returns : goal.returns
returns c = passing_is_unique
