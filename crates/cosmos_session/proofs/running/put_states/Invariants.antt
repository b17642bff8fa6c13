-- The clocks before this one are put in each column; and what is left leads on from here.
use Rattle.std.proofs.Common.{◌≡◌, ◌<◌, ℕ, drop}
use Rattle.column_stage.specs.Acts.{Leads}
use Rattle.session_meaning.specs.Effects.{states_with}
use Rattle.session_meaning.specs.Stages.{acts_of_clocks}
use Rattle.cosmos_session.specs.Keeping.{KeepsStage}
use Rattle.cosmos_session.proofs.running.put_states.Given as goal

abbrev pub invariant-loop-clock : goal.invariant-loop-clock
invariant-loop-clock g l = record {
  states : (column : ℕ) → column < g.M.Columns.columns l.fn.stage →
      states_with (drop l.clock-index l.clocks) l.place (g.M.Columns.states l.stage column) ≡ states_with l.clocks l.place (g.M.Columns.states l.fn.stage column);
  keeps : KeepsStage g.M.Columns.columns g.M.Columns.states g.M.Columns.last g.M.Columns.serves g.M.Columns.fits l.graph l.fn.stage l.stage;
  did : (end : _) → Leads g.M.Columns.did l.stage (acts_of_clocks l.graph (drop l.clock-index l.clocks) l.place) end →
      Leads g.M.Columns.did l.fn.stage (acts_of_clocks l.graph l.clocks l.place) end;
}
