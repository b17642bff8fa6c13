-- The law of groups that read no change.
use Rattle.group_rest.proofs.RestingGroups.{unread_group_rests}
use Rattle.group_rest.proofs.unread_groups_rest.Goals as goal

pub returns : goal.returns
returns c = unread_group_rests
