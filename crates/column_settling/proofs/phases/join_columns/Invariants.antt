-- Each column goes on from the joining steps that changed it, some column moved in each of them, and each left fewer nodes that can become X.
use Rattle.std.proofs.Common.{◌≡◌, ℕ, ◌<◌, ◌^◌, length}
use Rattle.column_settling.specs.Reaching.{Reaches}
use Rattle.column_settling.proofs.JoiningLemmas.{JoinsOn, JoinFront, sum_below, known_in}
use Rattle.column_settling.proofs.phases.join_columns.Given as goal

abbrev pub invariant-joining : goal.invariant-joining
invariant-joining g l = record {
  fits : g.M.ColumnStepper.fits l.m l.graph;
  columns : g.M.ColumnStepper.columns l.m ≡ g.M.ColumnStepper.columns l.initial.m;
  keeps : Reaches g.M.ColumnStepper.keeps l.initial.m l.m;
  nodes : (column : ℕ) → column < g.M.ColumnStepper.columns l.initial.m → length (g.M.ColumnStepper.state l.m column) ≡ length (g.M.ColumnStepper.state l.initial.m column);
  each : (column : ℕ) → column < g.M.ColumnStepper.columns l.initial.m →
      JoinsOn l.graph l.taken (g.M.ColumnStepper.state l.initial.m column) (g.M.ColumnStepper.state l.m column);
  front : JoinFront l.graph (g.M.ColumnStepper.columns l.initial.m) l.taken (g.M.ColumnStepper.state l.initial.m) (g.M.ColumnStepper.state l.m);
  bound : l.taken < 2 ^ 63;
}

abbrev pub decreases-joining : goal.decreases-joining
decreases-joining g l = sum_below (g.M.ColumnStepper.columns l.initial.m) (λ column. known_in (g.M.ColumnStepper.state l.m column))
