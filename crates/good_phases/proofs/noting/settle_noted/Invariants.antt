-- So many steps changed something so far; each state behind one of them was noted and shown.
use Rattle.std.proofs.Common.{◌≡◌, ◌+◌, ◌≤◌}
use Rattle.beside_phases.proofs.WorkLemmas.{work_left}
use Rattle.good_phases.specs.Phases.{PassesNoted}
use Rattle.good_phases.proofs.noting.settle_noted.Given as goal

abbrev pub invariant-loop-count : goal.invariant-loop-count
invariant-loop-count g l = record {
  passes : PassesNoted g.O.Observer.see l.graph l.limit l.count l.fn.machine l.machine l.fn.run l.run (g.O.Observer.seen l.fn.onlooker) (g.O.Observer.seen l.onlooker);
  known : l.run.known ≡ l.machine.state;
  bound : l.count + work_left l.limit l.count l.machine.state ≤ work_left l.limit 0 l.fn.machine.state;
  knows : g.O.Observer.knows l.onlooker l.machine.state;
}

abbrev pub decreases-loop-count : goal.decreases-loop-count
decreases-loop-count g l = work_left l.limit l.count l.machine.state
