-- The stage serves as it served, in the states that it had.
use Rattle.std.proofs.Common.{refl, sym, subst}
use Rattle.analysis_cache.specs.Keeping.{texts_of}
use Rattle.column_stage.proofs.SoundLemmas.{first_of_some, sound_still}
use Rattle.session_meaning.specs.Sessions.{HeldSession}
use Rattle.session_meaning.proofs.StayingLemmas.{core_given, session_of}
use Rattle.cosmos_session.proofs.StageLemmas.{stage_moved, used_same}
use Rattle.cosmos_session.proofs.session.Session.work_on_stage.Goals as goal

pub work-requires : goal.work-requires
work-requires g c = subst (λ (s : HeldSession _). g.W.Work.asks c.args.worker.now s.stage) (sym c.self.view_is) c.requires

pub invariant_of-self : goal.invariant_of-self
invariant_of-self g c =
    let session = session_of c.self.invariant.0 in
    let graph = session.core.circuit.graph in
    stage_moved g.M.Columns.columns g.M.Columns.states g.M.Columns.serves g.M.Columns.last (texts_of c.self.inside.kept) session c.work.new.stage
    session.core.count c.self.invariant refl c.work.ensures.last c.work.ensures.columns
    (sound_still g.M.Columns.columns g.M.Columns.states graph session.stage c.work.new.stage c.work.ensures.columns c.work.ensures.states c.self.invariant.0.sound)
    (c.work.ensures.serves graph)

pub returns : goal.returns
returns g c = record {
  core = rw (← c.self.view_is)
      (core_given (session_of c.self.invariant.0).core _ _ _ (c.work.ensures.states 0 (first_of_some _ c.self.invariant.0.some)) (used_same _ _ (texts_of c.self.inside.kept) c.work.ensures.last));
  columns = rw (← c.self.view_is) c.work.ensures.columns;
  states = rw (← c.self.view_is) c.work.ensures.states;
  done = rw (← c.self.view_is) c.work.ensures.done;
}
