-- The clocks' nodes are past the rails.
use Rattle.std.proofs.Common.{refl}
use Rattle.column_stage.proofs.SoundLemmas.{first_of_some}
use Rattle.analysis_cache.specs.Keeping.{texts_of}
use Rattle.session_meaning.proofs.StayingLemmas.{core_given, session_of}
use Rattle.cosmos_session.proofs.StageLemmas.{stage_stays, used_same}
use Rattle.cosmos_session.proofs.session.Session.place_beat.Goals as goal

pub put_beats-requires-clause-sound : goal.put_beats-requires-clause-sound
put_beats-requires-clause-sound g c = rw c.graph.ensures.value c.self.invariant.0.sound

pub put_beats-requires-clause-within : goal.put_beats-requires-clause-within
put_beats-requires-clause-within g c = rw (c.graph.ensures.value, c.deref.ensures.value) c.self.invariant.0.core.clocks

pub invariant_of-self : goal.invariant_of-self
invariant_of-self g c =
    let e = c.put_beats.ensures.keeps in
    stage_stays g.M.Columns.last (texts_of c.self.inside.kept) c.put_beats.new.stage c.self.invariant refl e.texts e.count c.graph.ensures.value e.sound e.serving

pub returns : goal.returns
returns g c =
    let put = rw c.deref.ensures.value at c.put_beats.ensures.states in
    let keeps = rw c.graph.ensures.value at c.put_beats.ensures.keeps in
    record {
      core = rw (← c.self.view_is)
          (core_given (session_of c.self.invariant.0).core _ _ _ (put 0 (first_of_some _ c.self.invariant.0.some)) (used_same _ _ (texts_of c.self.inside.kept) c.put_beats.ensures.keeps.texts));
      states = rw (← c.self.view_is) put;
      columns = rw (← c.self.view_is) c.put_beats.ensures.keeps.count;
      fits = rw (← c.self.view_is) keeps.fitting;
      kept = rw (← c.self.view_is) c.put_beats.ensures.kept;
    }
