-- Both are asked.
use Rattle.wide_groups.specs.Staying.{HoldsNode, HoldsUpTo}
use Rattle.unit_step.proofs.waking.is_passed.Goals as goal

pub returns-then-holds_up_to : goal.returns-then-holds_up_to
returns-then-holds_up_to c = (
  (λ is. (c.holds_up_to.ensures.0 c.if-holds_up_to.true, c.holds_node.ensures.0 is)),
  (λ (both : HoldsUpTo c.args.large c.args.wide.now × HoldsNode c.args.wide.now c.args.node). c.holds_node.ensures.1 both.1),
)

pub returns : goal.returns
returns c = (
  (λ is. absurd cc),
  (λ (both : HoldsUpTo c.args.large c.args.wide.now × HoldsNode c.args.wide.now c.args.node).
      absurd (cc (c.holds_up_to.ensures.1 both.0, c.if-holds_up_to.false))),
)
