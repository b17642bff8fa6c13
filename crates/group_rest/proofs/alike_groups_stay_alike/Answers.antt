-- The laws of groups that two graphs share.
use Rattle.group_rest.proofs.AlikeGroups.{alike_groups_have_one_text, alike_groups_read_alike, alike_groups_rest_alike}
use Rattle.group_rest.proofs.alike_groups_stay_alike.Goals as goal

pub returns-clause-texts : goal.returns-clause-texts
returns-clause-texts c = alike_groups_have_one_text

-- they read alike
pub returns-clause-reads : goal.returns-clause-reads
returns-clause-reads c = alike_groups_read_alike

-- and so they rest in the same states
pub returns-clause-rests : goal.returns-clause-rests
returns-clause-rests c = alike_groups_rest_alike
