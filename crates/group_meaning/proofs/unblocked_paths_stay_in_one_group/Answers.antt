-- The laws of unblocked paths.
use Rattle.group_meaning.proofs.StoragePaths.{over_storage, in_one_group}
use Rattle.group_meaning.proofs.unblocked_paths_stay_in_one_group.Goals as goal

pub returns-clause-storage : goal.returns-clause-storage
returns-clause-storage c = over_storage

pub returns-clause-group : goal.returns-clause-group
returns-clause-group c = in_one_group
