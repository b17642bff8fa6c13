-- The members so far have their bases.
use Rattle.std.proofs.Common.{◌+◌, ◌-◌, ◌*◌, ◌≤◌, ◌++◌}
use Rattle.node_elimination.specs.Elimination.{Moves, PutsRights}
use Rattle.node_elimination.specs.LevelSystem.{driven_base, value_of}
use Rattle.node_elimination.proofs.level.put_roots.Given as goal

abbrev pub invariant-loop-i : goal.invariant-loop-i
invariant-loop-i g l = record {
  moves : Moves (l.above ++ (l.links.gates.now ++ (l.links.passes.now ++ l.links.sources.now))) l.initial.pool
      l.initial.system l.pool l.system (l.steps - l.initial.steps);
  puts : PutsRights l.i (λ vars. driven_base l.links.graph.now l.links.level (value_of l.initial.pool l.above vars)
      (value_of l.initial.pool l.links.gates.now vars) (value_of l.initial.pool l.links.sources.now vars))
      l.initial.pool l.initial.system l.pool l.system;
  rises : l.initial.steps ≤ l.steps;
  few : l.steps ≤ l.initial.steps + 2 * l.i;
}
