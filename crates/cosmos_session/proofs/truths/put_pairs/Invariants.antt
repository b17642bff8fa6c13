-- The nodes before this one have their letters; those of the rest are still to be given, and are the stage's own still.
use Rattle.std.proofs.Common.{◌≡◌, ℕ, ◌<◌, drop}
use Rattle.column_stage.specs.Truths.{KeepsGiven}
use Rattle.session_meaning.specs.Effects.{assigned}
use Rattle.session_meaning.specs.Truths.{letters_in_column}
use Rattle.cosmos_session.specs.Keeping.{KeepsStage}
use Rattle.cosmos_session.proofs.truths.put_pairs.Given as goal

abbrev pub invariant-loop-pair : goal.invariant-loop-pair
invariant-loop-pair g l = record {
  states : (column : ℕ) → column < g.M.Columns.columns l.fn.stage →
      assigned (g.M.Columns.states l.stage column) (letters_in_column g.M.TruthStage.letter_of l.fn.stage (drop l.pair-index l.pairs) column)
      ≡ assigned (g.M.Columns.states l.fn.stage column) (letters_in_column g.M.TruthStage.letter_of l.fn.stage l.pairs column);
  keeps : KeepsStage g.M.Columns.columns g.M.Columns.states g.M.Columns.last g.M.Columns.serves g.M.Columns.fits l.graph l.fn.stage l.stage;
  kept : KeepsGiven g.M.Columns.columns g.M.TruthStage.gives g.M.TruthStage.letter_of g.M.TruthStage.bound l.fn.stage l.stage;
}
