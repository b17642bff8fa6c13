-- Each joining step so far changed something, and left fewer nodes known.
use Rattle.std.proofs.Common.{◌≡◌, ℕ, ◌+◌, ◌<◌, ◌≤◌, true, List, length}
use Rattle.ternary.specs.declared.tern.Tern.{Tern}
use Rattle.settling.specs.Settling.{Joining, StaysOrBecomesX, storage_nodes}
use Rattle.ternary.specs.Counts.{raised}
use Rattle.settling.proofs.KnownStates.{known, known_storage}
use Rattle.settling.proofs.settling.join_while_changing.Given as goal

abbrev pub invariant-loop-count : goal.invariant-loop-count
invariant-loop-count g l = record {
  joining : g.M.Stepper.fits l.initial.m l.graph → (more : ℕ) (new : List Tern) →
      Joining l.graph (g.M.Stepper.state l.m) more new →
      Joining l.graph (g.M.Stepper.state l.initial.m) (l.count + more) new;
  fits : g.M.Stepper.fits l.initial.m l.graph → g.M.Stepper.fits l.m l.graph;
  nodes : length (g.M.Stepper.state l.m) ≡ length (g.M.Stepper.state l.initial.m);
  storage : g.M.Stepper.fits l.initial.m l.graph → 0 < l.count →
      l.count + known_storage l.graph (g.M.Stepper.state l.m) ≤ storage_nodes l.graph;
  fades : StaysOrBecomesX (g.M.Stepper.state l.initial.m) (g.M.Stepper.state l.m);
  unmoved : l.count ≡ 0 → g.M.Stepper.state l.m ≡ g.M.Stepper.state l.initial.m;
  fewer : l.count + known (λ _. true) (g.M.Stepper.state l.m) ≤ known (λ _. true) (g.M.Stepper.state l.initial.m);
  bound : l.count + known (λ _. true) (g.M.Stepper.state l.m) ≤ length (g.M.Stepper.state l.initial.m);
  moves : g.M.Stepper.moves l.m ≡ raised (g.M.Stepper.moves l.initial.m) l.count;
  placed : g.M.Stepper.placed l.m ≡ g.M.Stepper.placed l.initial.m;
  fixed : g.M.Stepper.fixed l.m ≡ g.M.Stepper.fixed l.initial.m;
}

abbrev pub decreases-loop-count : goal.decreases-loop-count
decreases-loop-count g l = known (λ _. true) (g.M.Stepper.state l.m)
