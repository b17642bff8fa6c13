-- The stage's columns have their letters, and the rest of the session stays.
use Rattle.std.proofs.Common.{refl}
use Rattle.analysis_cache.specs.Keeping.{texts_of}
use Rattle.session_meaning.proofs.StayingLemmas.{core_given, session_of}
use Rattle.cosmos_session.proofs.StageLemmas.{stage_stays, used_same}
use Rattle.cosmos_session.proofs.session.Session.place_pairs.Goals as goal

pub put_pairs-requires-clause-sound : goal.put_pairs-requires-clause-sound
put_pairs-requires-clause-sound g c = rw c.graph.ensures.value c.self.invariant.0.sound

pub put_pairs-requires-clause-within : goal.put_pairs-requires-clause-within
put_pairs-requires-clause-within g c = rw c.graph.ensures.value (rw (← c.self.view_is) at c.requires.within)

pub put_pairs-requires-clause-own : goal.put_pairs-requires-clause-own
put_pairs-requires-clause-own g c = rw (← c.self.view_is) at c.requires.own

pub invariant_of-self : goal.invariant_of-self
invariant_of-self g c =
    let e = c.put_pairs.ensures.keeps in
    stage_stays g.M.Columns.last (texts_of c.self.inside.kept) c.put_pairs.new.stage c.self.invariant refl e.texts e.count c.graph.ensures.value e.sound e.serving

pub returns : goal.returns
returns g c =
    let keeps = rw c.graph.ensures.value at c.put_pairs.ensures.keeps in
    record {
      states = rw (← c.self.view_is) c.put_pairs.ensures.states;
      columns = rw (← c.self.view_is) c.put_pairs.ensures.keeps.count;
      fits = rw (← c.self.view_is) keeps.fitting;
      kept = rw (← c.self.view_is) c.put_pairs.ensures.kept;
      core =
          let state = g.M.Columns.states c.put_pairs.new.stage 0 in
          rw (← c.self.view_is) (core_given (session_of c.self.invariant.0).core state state _ refl (used_same _ _ (texts_of c.self.inside.kept) c.put_pairs.ensures.keeps.texts));
    }
