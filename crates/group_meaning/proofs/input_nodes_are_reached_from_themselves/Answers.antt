-- The law of input nodes.
use Rattle.group_meaning.proofs.StoragePaths.{from_itself}
use Rattle.group_meaning.proofs.input_nodes_are_reached_from_themselves.Goals as goal

pub returns : goal.returns
returns c = from_itself
