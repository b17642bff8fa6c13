-- The state that was read is the node's.
use Rattle.good_run.proofs.recorder.take_one.Goals as goal

pub returns-clause-takes : goal.returns-clause-takes
returns-clause-takes g c = rw c.states.ensures at c.take_node.ensures.takes
