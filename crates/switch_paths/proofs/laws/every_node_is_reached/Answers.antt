-- The laws of reached nodes.
use Rattle.switch_paths.proofs.ReachedNodes.{reached, unblocked}
use Rattle.switch_paths.proofs.laws.every_node_is_reached.Goals as goal

pub returns-clause-reached : goal.returns-clause-reached
returns-clause-reached c = reached

pub returns-clause-unblocked : goal.returns-clause-unblocked
returns-clause-unblocked c = unblocked
