-- Each column goes on from the steps that it counts.
use Rattle.std.proofs.Common.{◌≡◌, ℕ, ◌<◌, ◌≤◌, false, length, get_or}
use Rattle.settling.specs.declared.settling.Settled.{Settled}
use Rattle.column_settling.proofs.GoingLemmas.{Going}
use Rattle.word_settling.proofs.phases.step_columns.Given as goal

abbrev pub invariant-loop-taken : goal.invariant-loop-taken
invariant-loop-taken g l = record {
  fits : g.M.WordStepper.fits l.initial.m l.graph → g.M.WordStepper.fits l.m l.graph;
  columns : g.M.WordStepper.columns l.m ≡ g.M.WordStepper.columns l.initial.m;
  nodes : (column : ℕ) → column < g.M.WordStepper.columns l.initial.m → length (g.M.WordStepper.state l.m column) ≡ length (g.M.WordStepper.state l.initial.m column);
  going : g.M.WordStepper.fits l.initial.m l.graph → (column : ℕ) (past : Settled) → column < g.M.WordStepper.columns l.initial.m →
      Going l.graph l.limit l._taken (g.M.WordStepper.state l.initial.m column) (get_or l.out column past).steps (g.M.WordStepper.state l.m column);
  within : (column : ℕ) (past : Settled) → column < g.M.WordStepper.columns l.initial.m → (get_or l.out column past).steps ≤ l._taken;
  unjoined : (column : ℕ) (past : Settled) → column < g.M.WordStepper.columns l.initial.m → (get_or l.out column past).joined ≡ false;
}
