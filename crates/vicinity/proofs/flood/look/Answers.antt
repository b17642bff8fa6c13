-- If no arm leads to a node, nothing comes.
use Rattle.vicinity.proofs.FloodLemmas.{Wakes-none}
use Rattle.vicinity.proofs.flood.look.Goals as goal

pub returns-in_default : goal.returns-in_default
returns-in_default c = Wakes-none c.args.graph.now _ c.args.awake.now (λ node leads storage. c.arm_at.ensures.some node leads c.in_default.is)
