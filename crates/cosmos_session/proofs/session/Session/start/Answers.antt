-- The stage is at its start, and serves any graph.
use Rattle.std.proofs.Common.{ℕ, ◌≤◌, sym, subst, ◌∙◌, arith}
use Rattle.cosmos_session.proofs.StageLemmas.{start_alone}
use Rattle.cosmos_session.proofs.session.Session.start.Goals as goal

pub over_stage-requires : goal.over_stage-requires
over_stage-requires g c = record {
  bound = c.requires;
  some = subst (λ (n : ℕ). 1 ≤ n) (sym c.still.ensures.one) (omega arith);
  start = start_alone g.M.Columns.columns g.M.Columns.states c.still.result _ c.still.ensures.one (c.still.ensures.state ∙ c.in_ok-state.ensures);
  last = c.still.ensures.last;
  serves = c.still.ensures.serves _ _;
}

pub returns-clause-starts : goal.returns-clause-starts
returns-clause-starts g c = subst g.M.PlainStage.starts (sym c.over_stage.ensures.stage) c.still.ensures.starts
