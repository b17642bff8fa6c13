-- Each step so far changed something, and so did each since the state that is remembered.
use Rattle.std.proofs.Common.{◌≡◌, ◌-◌, ◌≤◌, length}
use Rattle.settling.specs.Recurring.{Changing}
use Rattle.ternary.specs.Counts.{raised}
use Rattle.settling.proofs.RecurringLemmas.{KeptChanging}
use Rattle.settling.proofs.settling.step_while_changing.Given as goal

abbrev pub invariant-loop-count : goal.invariant-loop-count
invariant-loop-count g l = record {
  changing : g.M.Stepper.fits l.initial.m l.graph → Changing l.graph l.count (g.M.Stepper.state l.initial.m) (g.M.Stepper.state l.m);
  kept : g.M.Stepper.fits l.initial.m l.graph → KeptChanging l.graph l.recall l.count (g.M.Stepper.state l.m);
  fits : g.M.Stepper.fits l.initial.m l.graph → g.M.Stepper.fits l.m l.graph;
  within : l.count ≤ l.limit;
  unmoved : l.count ≡ 0 → g.M.Stepper.state l.m ≡ g.M.Stepper.state l.initial.m;
  nodes : length (g.M.Stepper.state l.m) ≡ length (g.M.Stepper.state l.initial.m);
  moves : g.M.Stepper.moves l.m ≡ raised (g.M.Stepper.moves l.initial.m) l.count;
  placed : g.M.Stepper.placed l.m ≡ g.M.Stepper.placed l.initial.m;
  fixed : g.M.Stepper.fixed l.m ≡ g.M.Stepper.fixed l.initial.m;
}

abbrev pub decreases-loop-count : goal.decreases-loop-count
decreases-loop-count g l = l.limit - l.count
