-- The clocks' nodes are past the rails.
use Rattle.std.proofs.Common.{refl, sym, subst}
use Rattle.analysis_cache.specs.Keeping.{texts_of}
use Rattle.column_stage.proofs.SoundLemmas.{first_of_some}
use Rattle.session_meaning.specs.Sessions.{HeldSession}
use Rattle.session_meaning.proofs.StayingLemmas.{core_given, session_of}
use Rattle.cosmos_session.proofs.StageLemmas.{stage_moved, used_same}
use Rattle.cosmos_session.proofs.session.Session.put_clocks.Goals as goal

pub put_states-requires-clause-some : goal.put_states-requires-clause-some
put_states-requires-clause-some g c = c.self.invariant.0.some

pub put_states-requires-clause-sound : goal.put_states-requires-clause-sound
put_states-requires-clause-sound g c = rw c.graph.ensures.value c.self.invariant.0.sound

pub put_states-requires-clause-within : goal.put_states-requires-clause-within
put_states-requires-clause-within g c = rw (c.graph.ensures.value, c.deref.ensures.value) c.self.invariant.0.core.clocks

pub invariant_of-self : goal.invariant_of-self
invariant_of-self g c =
    let session = session_of c.self.invariant.0 in
    let keeps = rw c.graph.ensures.value at c.put_states.ensures.keeps in
    stage_moved g.M.Columns.columns g.M.Columns.states g.M.Columns.serves g.M.Columns.last (texts_of c.self.inside.kept) session
    c.put_states.new.stage
    session.core.count c.self.invariant refl c.put_states.ensures.keeps.texts c.put_states.ensures.keeps.count
    keeps.sound keeps.serving

pub returns-clause-beat : goal.returns-clause-beat
returns-clause-beat g c =
    let table = texts_of c.self.inside.kept in
    rw (← c.self.view_is)
    (core_given (session_of c.self.invariant.0).core _ _ _ ((rw c.deref.ensures.value at c.put_states.ensures.states) 0 (first_of_some _ c.self.invariant.0.some))
    (used_same _ _ table c.put_states.ensures.keeps.texts))

pub returns-clause-fits : goal.returns-clause-fits
returns-clause-fits g c =
    let keeps = rw c.graph.ensures.value at c.put_states.ensures.keeps in
    keeps.fitting
    (subst (λ (s : HeldSession _). g.M.Columns.fits s.stage s.core.circuit.graph) (sym c.self.view_is) c.requires.fits)

pub returns-clause-stage : goal.returns-clause-stage
returns-clause-stage g c = rw (← c.self.view_is) (rw (c.graph.ensures.value, c.deref.ensures.value) at c.put_states.ensures.did)

pub returns-clause-columns : goal.returns-clause-columns
returns-clause-columns g c = rw (← c.self.view_is) c.put_states.ensures.keeps.count

pub returns-clause-states : goal.returns-clause-states
returns-clause-states g c = rw (← c.self.view_is) (rw c.deref.ensures.value at c.put_states.ensures.states)
