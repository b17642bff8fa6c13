-- If none is known, no node is a member of one.
use Rattle.wide_groups.proofs.StayingLemmas.{none_holds_node}
use Rattle.wide_groups.proofs.staying.holds_node.Goals as goal

pub returns-in-None : goal.returns-in-None
returns-in-None c = ((λ is. absurd cc), (λ storage. absurd (none_holds_node c.args.wide.now c.in-None.is c.args.node storage)))
