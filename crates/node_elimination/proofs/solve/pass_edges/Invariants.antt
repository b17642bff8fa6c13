-- The edges so far lead past k; the one to k itself took no step.
use Rattle.std.proofs.Common.{◌+◌, ◌-◌, ◌*◌, ◌<◌, ◌≤◌, []}
use Rattle.node_elimination.specs.Elimination.{Moves, PassesEdges}
use Rattle.node_elimination.proofs.solve.pass_edges.Given as goal

abbrev pub invariant-loop-j : goal.invariant-loop-j
invariant-loop-j g l = record {
  moves : Moves [] l.initial.pool l.initial.system l.pool l.system (l.steps - l.initial.steps);
  passes : PassesEdges l.k l.i l.j l.initial.pool l.initial.system l.pool l.system;
  rises : l.initial.steps ≤ l.steps;
  few : l.steps ≤ l.initial.steps + 2 * l.j;
  spared : l.k < l.j → l.steps + 2 ≤ l.initial.steps + 2 * l.j;
}
