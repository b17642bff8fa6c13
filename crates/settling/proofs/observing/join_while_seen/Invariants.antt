-- Each joining step so far changed something, left fewer nodes known, and was seen.
use Rattle.std.proofs.Common.{◌≡◌, ◌+◌, ◌≤◌, true, length}
use Rattle.settling.proofs.SeenSoFar.{JoinedSoFar}
use Rattle.settling.proofs.KnownStates.{known}
use Rattle.ternary.specs.Counts.{raised}
use Rattle.settling.proofs.observing.join_while_seen.Given as goal

abbrev pub invariant-loop-count : goal.invariant-loop-count
invariant-loop-count g l = record {
  so_far : JoinedSoFar g.O.Observer.see l.graph (g.M.Moved.state l.initial.m) l.count
      (g.M.Moved.state l.m) (g.O.Observer.seen l.initial.observer) (g.O.Observer.seen l.observer);
  knows : g.O.Observer.knows l.observer (g.M.Moved.state l.m);
  observer : g.O.Observer.fixed l.observer ≡ g.O.Observer.fixed l.initial.observer;
  fits : g.M.SeenStepper.fits l.m l.graph;
  nodes : length (g.M.Moved.state l.m) ≡ length (g.M.Moved.state l.initial.m);
  bound : l.count + known (λ _. true) (g.M.Moved.state l.m) ≤ length (g.M.Moved.state l.initial.m);
  moves : g.M.SeenStepper.moves l.m ≡ raised (g.M.SeenStepper.moves l.initial.m) l.count;
  placed : g.M.SeenStepper.placed l.m ≡ g.M.SeenStepper.placed l.initial.m;
  fixed : g.M.SeenStepper.fixed l.m ≡ g.M.SeenStepper.fixed l.initial.m;
}

abbrev pub decreases-loop-count : goal.decreases-loop-count
decreases-loop-count g l = known (λ _. true) (g.M.Moved.state l.m)
