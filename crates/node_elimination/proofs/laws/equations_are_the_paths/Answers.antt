-- Both halves of the law.
use Rattle.node_elimination.proofs.LevelLemmas.{reached_by_paths, driven_by_paths}
use Rattle.node_elimination.proofs.laws.equations_are_the_paths.Goals as goal

pub returns-clause-definite : goal.returns-clause-definite
returns-clause-definite c = reached_by_paths

pub returns-clause-unblocked : goal.returns-clause-unblocked
returns-clause-unblocked c = driven_by_paths
