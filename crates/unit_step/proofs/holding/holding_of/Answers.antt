-- The members of these parts are held.
use Rattle.std.proofs.Common.{All, sym, subst}
use Rattle.unit_step.specs.Holding.{HasNodes}
use Rattle.unit_step.proofs.holding.holding_of.Goals as goal

pub member_set-requires-clause-there : goal.member_set-requires-clause-there
member_set-requires-clause-there c = subst (λ n. All (HasNodes n) c.args.parts.now) (sym c.nodes.ensures) c.requires.there

pub returns : goal.returns
returns c = record {
  inside = c.in_ok-members.members.inside;
  members = c.in_ok-members.ensures.members;
  holds = c.in_ok-wide.ensures;
  enough = c.in_ok-noted.ensures.capacity;
}
