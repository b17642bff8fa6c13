-- Each step so far changed something, and was seen or is in a round that was, and so was each since the state that is remembered.
use Rattle.std.proofs.Common.{◌≡◌, ◌-◌, ◌≤◌, length}
use Rattle.settling.proofs.SeenSoFar.{SteppedSoFar}
use Rattle.settling.proofs.SeenRounds.{KeptSeen}
use Rattle.ternary.specs.Counts.{raised}
use Rattle.settling.proofs.observing.step_while_seen.Given as goal

abbrev pub invariant-loop-count : goal.invariant-loop-count
invariant-loop-count g l = record {
  so_far : SteppedSoFar g.O.Observer.see l.graph l.limit (l.limit - l.count) (g.M.Moved.state l.initial.m) l.count
      (g.M.Moved.state l.m) (g.O.Observer.seen l.initial.observer) (g.O.Observer.seen l.observer);
  kept : KeptSeen g.O.Observer.see l.graph l.recall l.count (g.M.Moved.state l.m) (g.O.Observer.seen l.observer);
  knows : g.O.Observer.knows l.observer (g.M.Moved.state l.m);
  observer : g.O.Observer.fixed l.observer ≡ g.O.Observer.fixed l.initial.observer;
  fits : g.M.SeenStepper.fits l.m l.graph;
  within : l.count ≤ l.limit;
  nodes : length (g.M.Moved.state l.m) ≡ length (g.M.Moved.state l.initial.m);
  moves : g.M.SeenStepper.moves l.m ≡ raised (g.M.SeenStepper.moves l.initial.m) l.count;
  placed : g.M.SeenStepper.placed l.m ≡ g.M.SeenStepper.placed l.initial.m;
  fixed : g.M.SeenStepper.fixed l.m ≡ g.M.SeenStepper.fixed l.initial.m;
}

abbrev pub decreases-loop-count : goal.decreases-loop-count
decreases-loop-count g l = l.limit - l.count
