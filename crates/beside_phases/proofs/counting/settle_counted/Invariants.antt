-- So many steps of the good run's phase were taken in both runs, and those that changed something are counted.
use Rattle.std.proofs.Common.{◌≡◌, ◌-◌, ◌≤◌}
use Rattle.good_run.specs.Recording.{state_before}
use Rattle.beside_phases.specs.Counting.{CountsBeside}
use Rattle.beside_phases.proofs.counting.settle_counted.Given as goal

abbrev pub invariant-loop-at : goal.invariant-loop-at
invariant-loop-at g l = record {
  counts : CountsBeside g.O.Observer.see l.good_graph l.graph l.limit (l.at - l.first) l.moved l.fn.machine l.machine l.good l.apart.inside
      (g.O.Observer.seen l.fn.onlooker) (g.O.Observer.seen l.onlooker);
  low : l.first ≤ l.at;
  high : l.at ≤ l.end;
  here : l.good ≡ state_before l.run l.at;
  knows : g.O.Observer.knows l.onlooker l.machine.state;
}
