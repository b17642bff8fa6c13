-- See the lemma.
use Rattle.settling.proofs.RecurringLemmas.{recurs}
use Rattle.settling.proofs.laws.states_that_come_back_recur.Goals as goal

pub returns : goal.returns
returns c = recurs
