-- All storage nodes are touched, and listed.
use Rattle.vicinity.proofs.wide.Wide.of.Goals as goal

pub returns-clause-touched : goal.returns-clause-touched
returns-clause-touched c = λ node storage. c.lists_what_is_in_it.ensures.listed node (c.wake_all.ensures.all node storage)
