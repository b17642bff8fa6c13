-- The clocks before this one are put; those of the rest are still to be.
use Rattle.std.proofs.Common.{◌≡◌, ℕ, ◌<◌, drop}
use Rattle.column_stage.specs.Truths.{KeepsGiven}
use Rattle.session_meaning.specs.Effects.{states_with}
use Rattle.cosmos_session.specs.Keeping.{KeepsStage}
use Rattle.cosmos_session.proofs.truths.put_beats.Given as goal

abbrev pub invariant-loop-clock : goal.invariant-loop-clock
invariant-loop-clock g l = record {
  states : (column : ℕ) → column < g.M.Columns.columns l.fn.stage →
      states_with (drop l.clock-index l.clocks) l.place (g.M.Columns.states l.stage column) ≡ states_with l.clocks l.place (g.M.Columns.states l.fn.stage column);
  keeps : KeepsStage g.M.Columns.columns g.M.Columns.states g.M.Columns.last g.M.Columns.serves g.M.Columns.fits l.graph l.fn.stage l.stage;
  kept : KeepsGiven g.M.Columns.columns g.M.TruthStage.gives g.M.TruthStage.letter_of g.M.TruthStage.bound l.fn.stage l.stage;
}
