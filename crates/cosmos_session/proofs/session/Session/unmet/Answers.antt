use Rattle.std.proofs.Common.{◌<◌, ℕ, All, sym, subst}
use Rattle.vector_values.specs.Values.{Letter}
use Rattle.switch_paths.specs.Graphs.{nodes}
use Rattle.session_meaning.specs.Sessions.{HeldSession}
use Rattle.session_meaning.proofs.StayingLemmas.{session_of}
use Rattle.session_meaning.proofs.LineLemmas.{unmet_none, unmet_some}
use Rattle.cosmos_session.proofs.session.Session.unmet.Goals as goal

pub are_met-met-requires : goal.are_met-met-requires
are_met-met-requires g c =
    rw c.column-state.ensures.value
    (subst (λ (count : ℕ). All (λ (pair : ℕ × Letter). pair.0 < count) c.args.pairs.now) (sym c.self.invariant.0.core.ready.states)
    (subst (λ (s : HeldSession _). All (λ (pair : ℕ × Letter). pair.0 < nodes s.core.circuit.graph) c.args.pairs.now) (sym c.self.view_is) c.requires))

pub returns-then-met : goal.returns-then-met
returns-then-met g c =
    rw (← c.self.view_is)
    (unmet_none (session_of c.self.invariant.0).core c.args.name.now c.args.pairs.now (rw (c.if-met.true, c.column-state.ensures.value) at c.are_met-met.ensures))

pub present-requires : goal.present-requires
present-requires g c =
    rw c.column-state.ensures.value
    (subst (λ (count : ℕ). All (λ (pair : ℕ × Letter). pair.0 < count) c.args.pairs.now) (sym c.self.invariant.0.core.ready.states)
    (subst (λ (s : HeldSession _). All (λ (pair : ℕ × Letter). pair.0 < nodes s.core.circuit.graph) c.args.pairs.now) (sym c.self.view_is) c.requires))

pub returns : goal.returns
returns g c =
    rw (← c.self.view_is, c.in_ok-name.ensures)
    (unmet_some (session_of c.self.invariant.0).core c.args.name.now c.args.pairs.now c.in_ok-want.want.items c.in_ok-got.got.items
    (rw (c.if-met.false, c.column-state.ensures.value) at c.are_met-met.ensures) c.in_ok-want.ensures.items (rw c.column-state.ensures.value at c.in_ok-got.ensures.items))
