-- The law of input nodes.
use Rattle.switch_paths.proofs.InputNodes.{input_response}
use Rattle.switch_paths.proofs.laws.input_nodes_keep_their_states.Goals as goal

pub returns : goal.returns
returns c = input_response
