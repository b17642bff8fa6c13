-- The look doesn't fail. What stays fixed in each step is the texts of the last build, and which machine it is.
use Rattle.std.proofs.Common.{Bool, List, ap, rules}
use Rattle.std.specs.Borrow.{GName}
use Rattle.group_text.specs.Texts.{GroupTextData}
use Rattle.session_meaning.proofs.PassingLemmas.{settled_seen}
use Rattle.machine_stage.proofs.moving.settle_uncounted.Goals as goal

pub returns-clause-settles : goal.returns-clause-settles
returns-clause-settles g c = search (rules, rw c.unfailing.ensures at c.settle_seen.ensures.settles)

pub returns-clause-moves : goal.returns-clause-moves
returns-clause-moves g c = search (rules, rw c.unfailing.ensures at c.settle_seen.ensures.moves)

pub returns-clause-seen : goal.returns-clause-seen
returns-clause-seen g c =
    search (
      rules,
      settled_seen g.O.Observer.see c.args.graph.now c.args.machine.now.state c.args.limit c.settle_seen.new.m.machine.now.state
          c.unfailing.result (g.O.Observer.seen c.args.onlooker.now) (g.O.Observer.seen c.settle_seen.new.observer)
          (rw c.unfailing.ensures at c.settle_seen.ensures.seen),
    )

pub returns-clause-knows : goal.returns-clause-knows
returns-clause-knows g c = search (rules, rw c.unfailing.ensures at c.settle_seen.ensures.knows)

pub returns-clause-last : goal.returns-clause-last
returns-clause-last g c = search (rules, ap (λ (fixed : (List GroupTextData × Bool) × GName). fixed.0.0) c.settle_seen.ensures.fixed)
