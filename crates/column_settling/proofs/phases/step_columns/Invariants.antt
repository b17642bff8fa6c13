-- Each column goes on from the steps that changed it, and some column moved in each of them.
use Rattle.std.proofs.Common.{◌≡◌, ℕ, ◌<◌}
use Rattle.column_settling.specs.Reaching.{Reaches}
use Rattle.column_settling.proofs.GoingLemmas.{Going, GoesOn}
use Rattle.column_settling.proofs.phases.step_columns.Given as goal

abbrev pub invariant-loop-taken : goal.invariant-loop-taken
invariant-loop-taken g l = record {
  fits : g.M.ColumnStepper.fits l.fn.m l.graph → g.M.ColumnStepper.fits l.m l.graph;
  columns : g.M.ColumnStepper.columns l.m ≡ g.M.ColumnStepper.columns l.fn.m;
  keeps : Reaches g.M.ColumnStepper.keeps l.fn.m l.m;
  each : g.M.ColumnStepper.fits l.fn.m l.graph → (column : ℕ) → column < g.M.ColumnStepper.columns l.fn.m →
      GoesOn l.graph l.limit l.taken (g.M.ColumnStepper.state l.fn.m column) (g.M.ColumnStepper.state l.m column);
  front : g.M.ColumnStepper.fits l.fn.m l.graph → (column : ℕ) × (column < g.M.ColumnStepper.columns l.fn.m) ×
      Going l.graph l.limit l.taken (g.M.ColumnStepper.state l.fn.m column) l.taken (g.M.ColumnStepper.state l.m column);
}
