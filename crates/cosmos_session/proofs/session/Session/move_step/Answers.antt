-- The stage's step is each column's.
use Rattle.std.proofs.Common.{◌≡◌, ℕ, ◌<◌, refl, sym, subst}
use Rattle.std.specs.Prelude.{OnErr, OnOk}
use Rattle.switch_paths.specs.Graphs.{GraphData}
use Rattle.switch_paths.specs.Step.{IsStep}
use Rattle.analysis_cache.specs.Keeping.{texts_of}
use Rattle.session_meaning.specs.Sessions.{HeldSession}
use Rattle.session_meaning.proofs.StayingLemmas.{core_given, session_of}
use Rattle.cosmos_session.proofs.StageLemmas.{stage_stays, used_same}
use Rattle.cosmos_session.proofs.session.Session.move_step.Goals as goal

pub step-requires : goal.step-requires
step-requires g c =
    subst (λ (graph : GraphData). g.M.Columns.fits (session_of c.self.invariant.0).stage graph) (sym c.graph-graph.ensures.value)
    (subst (λ (s : HeldSession _). g.M.Columns.fits s.stage s.core.circuit.graph) (sym c.self.view_is) c.requires)

pub invariant_of-self : goal.invariant_of-self
invariant_of-self g c =
    let e = c.step.ensures in
    stage_stays g.M.Columns.last (texts_of c.self.inside.kept) c.step.new.self c.self.invariant refl e.last e.columns c.graph-graph.ensures.value e.sound e.serves

pub returns : goal.returns
returns g c = record {
  steps =
      let stage = (session_of c.self.invariant.0).stage in
      let here =
      subst (λ (graph : GraphData). OnOk c.step.result
      ((column : ℕ) → column < g.M.Columns.columns stage → IsStep graph (g.M.Columns.states stage column)
      (g.M.Columns.states c.step.new.self column))) c.graph-graph.ensures.value c.step.ensures.steps in
      subst (λ (s : HeldSession _). OnOk c.step.result ((column : ℕ) → column < g.M.Columns.columns s.stage → IsStep s.core.circuit.graph
      (g.M.Columns.states s.stage column) (g.M.Columns.states c.step.new.self column))) c.self.view_is here;
  stays = subst (λ (s : HeldSession _). OnErr c.step.result ((column : ℕ) → column < g.M.Columns.columns s.stage → g.M.Columns.states c.step.new.self column
      ≡ g.M.Columns.states s.stage column)) c.self.view_is c.step.ensures.err;
  core =
      let state = g.M.Columns.states c.step.new.self 0 in
      rw (← c.self.view_is) (core_given (session_of c.self.invariant.0).core state state _ refl (used_same _ _ (texts_of c.self.inside.kept) c.step.ensures.last));
  columns = rw (← c.self.view_is) c.step.ensures.columns;
  kept = rw (← c.self.view_is) c.step.ensures.kept;
  fits = rw c.graph-graph.ensures.value at c.step.ensures.fits;
  spent = c.step.ensures.spent;
}
