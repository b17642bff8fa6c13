-- What is shown is the session's state and its clocks, if the stage shows it.
use Rattle.std.proofs.Common.{is_some, true≢false, sym, ap, subst, ◌∙◌}
use Rattle.session_meaning.specs.Sessions.{HeldSession}
use Rattle.session_meaning.specs.Passing.{KnowsButClocks}
use Rattle.cosmos_session.proofs.session.Session.begin.Goals as goal

pub begin_at-requires : goal.begin_at-requires
begin_at-requires g c =
    rw (c.in-Some.ensures.value.1, c.deref.ensures.value)
    (subst (λ (s : HeldSession _). KnowsButClocks g.O.Observer.knows c.args.onlooker.now s.core.clocks s.core.state) (sym c.self.view_is)
    (c.requires c.in-Some.ensures.value.0))

pub returns-in-Some-clause-seen : goal.returns-in-Some-clause-seen
returns-in-Some-clause-seen g c = λ shown.
    c.begin_at.ensures.seen
    ∙ ap (g.O.Observer.begin (g.O.Observer.seen c.args.onlooker.now))
    (c.in-Some.ensures.value.1 ∙ ap (λ (s : HeldSession _). s.core.state) c.self.view_is)

pub returns-in-Some-clause-knows : goal.returns-in-Some-clause-knows
returns-in-Some-clause-knows g c = λ shown.
    subst (g.O.Observer.knows c.begin_at.new.onlooker) (c.in-Some.ensures.value.1 ∙ ap (λ (s : HeldSession _). s.core.state) c.self.view_is)
    c.begin_at.ensures.knows

-- a stage that shows its states has some to show
pub returns-in-None-clause-seen : goal.returns-in-None-clause-seen
returns-in-None-clause-seen g c = λ shown. absurd (true≢false (sym (c.shown.ensures.there shown) ∙ ap (λ found. is_some found) c.in-None.is))

pub returns-in-None-clause-knows : goal.returns-in-None-clause-knows
returns-in-None-clause-knows g c = λ shown. absurd (true≢false (sym (c.shown.ensures.there shown) ∙ ap (λ found. is_some found) c.in-None.is))
