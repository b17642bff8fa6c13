-- A step that changes something is shown.
use Rattle.std.proofs.Common.{sym, subst}
use Rattle.std.proofs.lemmas.Bool.{OnTrue_at, OnFalse_at}
use Rattle.session_meaning.proofs.PassingLemmas.{step_seen, step_unseen}
use Rattle.machine_stage.proofs.moving.take_step.Goals as goal

pub show-requires : goal.show-requires
show-requires g c = (c.args.machine.now.state, c.requires.knows, c.step_uncounted.ensures.listed)

pub returns-then-step_uncounted-clause-seen : goal.returns-then-step_uncounted-clause-seen
returns-then-step_uncounted-clause-seen g c =
    rw (c.show.ensures.seen, c.show.ensures.same)
    (step_seen g.O.Observer.see c.args.graph.now c.args.machine.now.state c.step_uncounted.new.machine.state (g.O.Observer.seen c.args.onlooker.now)
    c.step_uncounted.ensures.step.step (OnTrue_at c.if-step_uncounted.true c.step_uncounted.ensures.changed))

pub returns-clause-seen : goal.returns-clause-seen
returns-clause-seen g c =
    step_unseen g.O.Observer.see c.args.graph.now c.args.machine.now.state c.step_uncounted.new.machine.state (g.O.Observer.seen c.args.onlooker.now)
    c.step_uncounted.ensures.step.step (OnFalse_at c.if-step_uncounted.false c.step_uncounted.ensures.same)

pub returns-clause-knows : goal.returns-clause-knows
returns-clause-knows g c =
    subst (g.O.Observer.knows c.args.onlooker.now) (sym (OnFalse_at c.if-step_uncounted.false c.step_uncounted.ensures.same)) c.requires.knows
