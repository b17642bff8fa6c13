-- The rows so far lead past k.
use Rattle.std.proofs.Common.{◌+◌, ◌-◌, ◌*◌, ◌≤◌, []}
use Rattle.node_elimination.specs.Elimination.{Moves, PassesRows}
use Rattle.node_elimination.proofs.solve.eliminate.Given as goal

abbrev pub invariant-loop-i : goal.invariant-loop-i
invariant-loop-i g l = record {
  moves : Moves [] l.initial.pool l.initial.system l.pool l.system (l.steps - l.initial.steps);
  passes : PassesRows l.k l.i l.initial.pool l.initial.system l.pool l.system;
  rises : l.initial.steps ≤ l.steps;
  few : l.steps ≤ l.initial.steps + l.i * (2 * l.initial.system.size);
}
