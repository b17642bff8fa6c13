-- Each column goes on from the joining steps that it counts, and each of them left fewer nodes that can still become X.
use Rattle.std.proofs.Common.{◌≡◌, ℕ, ◌+◌, ◌<◌, ◌≤◌, length, get_or}
use Rattle.settling.specs.declared.settling.TheConstants.{MOST_LIMIT}
use Rattle.settling.specs.declared.settling.Settled.{Settled}
use Rattle.column_settling.proofs.JoiningLemmas.{known_in, sum_below}
use Rattle.word_settling.proofs.CountLemmas.{JoiningOn}
use Rattle.word_settling.proofs.phases.join_columns.Given as goal

abbrev pub invariant-joining : goal.invariant-joining
invariant-joining g l = record {
  fits : g.M.WordStepper.fits l.initial.m l.graph → g.M.WordStepper.fits l.m l.graph;
  columns : g.M.WordStepper.columns l.m ≡ g.M.WordStepper.columns l.initial.m;
  nodes : (column : ℕ) → column < g.M.WordStepper.columns l.initial.m → length (g.M.WordStepper.state l.m column) ≡ length (g.M.WordStepper.state l.initial.m column);
  on : g.M.WordStepper.fits l.initial.m l.graph → (column : ℕ) (past : Settled) → column < g.M.WordStepper.columns l.initial.m →
      JoiningOn l.graph (g.M.WordStepper.state l.initial.m column) (get_or l.initial.out column past).steps (g.M.WordStepper.state l.m column) (get_or l.out column past);
  bound : (column : ℕ) (past : Settled) → column < g.M.WordStepper.columns l.initial.m →
      (get_or l.out column past).steps + known_in (g.M.WordStepper.state l.m column) ≤ MOST_LIMIT + length (g.M.WordStepper.state l.initial.m column);
}

abbrev pub decreases-joining : goal.decreases-joining
decreases-joining g l = sum_below (g.M.WordStepper.columns l.initial.m) (λ column. known_in (g.M.WordStepper.state l.m column))
