-- If none is known, no node is a member of one.
use Rattle.wide_groups.specs.Staying.{HoldsAny}
use Rattle.wide_groups.proofs.StayingLemmas.{none_holds_node}
use Rattle.wide_groups.proofs.staying.holds_any.Goals as goal

pub returns-in-None : goal.returns-in-None
returns-in-None c = (
  (λ is. absurd cc),
  (λ (any : HoldsAny c.args.wide.now c.args.members.now). absurd (none_holds_node c.args.wide.now c.in-None.is any.0 any.2)),
)
