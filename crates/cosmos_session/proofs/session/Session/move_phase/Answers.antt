-- The stage's phase is each column's.
use Rattle.std.proofs.Common.{refl, sym, subst}
use Rattle.std.specs.Prelude.{IfOk}
use Rattle.switch_paths.specs.Graphs.{GraphData}
use Rattle.column_settling.specs.Together.{SettleTogether}
use Rattle.analysis_cache.specs.Keeping.{texts_of}
use Rattle.session_meaning.specs.Sessions.{HeldSession}
use Rattle.session_meaning.proofs.StayingLemmas.{core_given, session_of}
use Rattle.cosmos_session.proofs.StageLemmas.{stage_stays, used_same}
use Rattle.cosmos_session.proofs.session.Session.move_phase.Goals as goal

pub settle-requires-clause-fits : goal.settle-requires-clause-fits
settle-requires-clause-fits g c =
    rw c.graph-graph.ensures.value (subst (λ (s : HeldSession _). g.M.Columns.fits s.stage s.core.circuit.graph) (sym c.self.view_is) c.requires)

pub invariant_of-self : goal.invariant_of-self
invariant_of-self g c =
    let e = c.settle.ensures in
    stage_stays g.M.Columns.last (texts_of c.self.inside.kept) c.settle.new.self c.self.invariant refl e.last e.columns c.graph-graph.ensures.value e.sound e.serves

pub returns : goal.returns
returns g c = record {
  core =
      let state = g.M.Columns.states c.settle.new.self 0 in
      rw (← c.self.view_is) (core_given (session_of c.self.invariant.0).core state state _ refl (used_same _ _ (texts_of c.self.inside.kept) c.settle.ensures.last));
  settles =
      let session = session_of c.self.invariant.0 in
      let here =
      subst (λ (graph : GraphData). IfOk c.settle.result (SettleTogether graph (g.M.Columns.columns session.stage) (g.M.Columns.states session.stage)
      session.core.limit (g.M.Columns.states c.settle.new.self))) c.graph-graph.ensures.value c.settle.ensures.settles in
      subst (λ (s : HeldSession _). IfOk c.settle.result (SettleTogether s.core.circuit.graph (g.M.Columns.columns s.stage) (g.M.Columns.states s.stage)
      s.core.limit (g.M.Columns.states c.settle.new.self))) c.self.view_is here;
  columns = rw (← c.self.view_is) c.settle.ensures.columns;
  kept = rw (← c.self.view_is) c.settle.ensures.kept;
  fits = rw c.graph-graph.ensures.value at c.settle.ensures.fits;
  spent = c.settle.ensures.spent;
}
