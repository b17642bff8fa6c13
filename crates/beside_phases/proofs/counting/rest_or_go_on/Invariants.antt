-- So many replacements were taken, each of the last of which changed something; the good run stays.
use Rattle.std.proofs.Common.{◌≡◌, ◌+◌, ◌≤◌}
use Rattle.beside_phases.specs.Counting.{PassesBeside}
use Rattle.beside_phases.proofs.WorkLemmas.{work_left}
use Rattle.beside_phases.proofs.counting.rest_or_go_on.Given as goal

abbrev pub invariant-loop-count : goal.invariant-loop-count
invariant-loop-count g l = record {
  passes : PassesBeside g.O.Observer.see l.good_graph l.graph l.limit l.moved l.count l.fn.machine l.machine l.good l.apart.inside
      (g.O.Observer.seen l.fn.onlooker) (g.O.Observer.seen l.onlooker);
  low : l.moved ≤ l.count;
  same : l.good ≡ l.fn.good;
  bound : l.count + work_left l.limit l.count l.machine.state ≤ l.moved + work_left l.limit l.moved l.fn.machine.state;
  knows : g.O.Observer.knows l.onlooker l.machine.state;
}

abbrev pub decreases-loop-count : goal.decreases-loop-count
decreases-loop-count g l = work_left l.limit l.count l.machine.state
