-- The nodes that were given states, or all, list those at which the state differs from the one that is known.
use Rattle.std.proofs.Common.{◌≡◌, ◌∙◌, subst, ap}
use Rattle.session_meaning.specs.Sessions.{HeldSession, IsSession}
use Rattle.settling.proofs.NumbersLemmas.{listed_after}
use Rattle.cosmos_session.proofs.ShowingLemmas.{given_by-lists}
use Rattle.cosmos_session.proofs.session.Session.show_given.Goals as goal

pub see-requires : goal.see-requires
see-requires g c =
    let new = c.args.self.now.core in
    let held = (subst (λ (s : HeldSession _). IsSession s.core) c.self.view_is c.self.invariant.0.core) in
    let (old, behind) = c.requires in
    let state : c.column-state.result.now ≡ new.state = c.column-state.ensures.value ∙ ap (λ (session : HeldSession _). session.core.state) c.self.view_is in
    rw (c.deref.ensures.value, state)
    (old.state, behind.known, given_by-lists old new c.args.give.now c.in-Some.pairs.items behind.moves held.ready.states c.in-Some.ensures)

pub see-requires-in-None : goal.see-requires-in-None
see-requires-in-None g c =
    let new = c.args.self.now.core in
    let (old, behind) = c.requires in
    let state : c.column-state.result.now ≡ new.state = c.column-state.ensures.value ∙ ap (λ (session : HeldSession _). session.core.state) c.self.view_is in
    rw state (old.state, behind.known, listed_after old.state new.state behind.moves.1)
