use Rattle.sim_read.proofs.ItemLemmas.{strength_after-last, strength_after-bad}
use Rattle.sim_read.proofs.laws.the_last_strength_counts.Goals as goal

pub returns-clause-last : goal.returns-clause-last
returns-clause-last c = strength_after-last c.args.profile

pub returns-clause-bad : goal.returns-clause-bad
returns-clause-bad c = strength_after-bad c.args.profile
