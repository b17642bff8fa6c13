-- What comes from the unknowns so far is gathered.
use Rattle.std.proofs.Common.{◌+◌, ◌-◌, ◌*◌, ◌≤◌, []}
use Rattle.node_elimination.specs.Elimination.{Moves, Gathers}
use Rattle.node_elimination.proofs.solve.gather.Given as goal

abbrev pub invariant-loop-j : goal.invariant-loop-j
invariant-loop-j g l = record {
  moves : Moves [] l.initial.pool l.initial.system l.pool l.system (l.steps - l.initial.steps);
  gathers : Gathers l.k l.j l.initial.pool l.initial.system l.pool l.system;
  rises : l.initial.steps ≤ l.steps;
  few : l.steps ≤ l.initial.steps + 2 * l.j;
}
