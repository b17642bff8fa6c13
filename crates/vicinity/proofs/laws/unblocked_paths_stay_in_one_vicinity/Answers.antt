-- The laws of vicinities.
use Rattle.vicinity.proofs.LiveGraphs.{in_one_vicinity, open_dont_matter, near_linked}
use Rattle.vicinity.proofs.laws.unblocked_paths_stay_in_one_vicinity.Goals as goal

pub returns-clause-vicinity : goal.returns-clause-vicinity
returns-clause-vicinity c = in_one_vicinity

-- without the open switches nothing changes
pub returns-clause-open : goal.returns-clause-open
returns-clause-open c = open_dont_matter

-- what is near is linked
pub returns-clause-group : goal.returns-clause-group
returns-clause-group c = near_linked
