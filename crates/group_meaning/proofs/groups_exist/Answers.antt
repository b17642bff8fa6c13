-- The law of the groups of a graph.
use Rattle.group_meaning.proofs.ExistingGroups.{exists}
use Rattle.group_meaning.proofs.UniqueGroups.{unique}
use Rattle.group_meaning.proofs.groups_exist.Goals as goal

pub returns-clause-exist : goal.returns-clause-exist
returns-clause-exist c = exists

pub returns-clause-unique : goal.returns-clause-unique
returns-clause-unique c = unique
