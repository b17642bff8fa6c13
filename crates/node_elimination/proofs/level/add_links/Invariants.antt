-- What the places so far link is added.
use Rattle.std.proofs.Common.{◌+◌, ◌-◌, ◌*◌, ◌<◌, ◌≤◌, ◌++◌, take}
use Rattle.std.specs.Prelude.{is_some, count_by}
use Rattle.node_elimination.specs.Elimination.{Moves}
use Rattle.node_elimination.specs.LevelSystem.{AddsLinks}
use Rattle.node_elimination.proofs.level.add_links.Given as goal

abbrev pub invariant-loop-place : goal.invariant-loop-place
invariant-loop-place g l = record {
  moves : Moves (l.links.gates.now ++ (l.links.passes.now ++ l.links.sources.now)) l.initial.pool l.initial.system l.pool
      l.system (l.steps - l.initial.steps);
  adds : AddsLinks l.links.graph.now l.initial.system.size (λ p. p < l.place) l.links.level l.links.gates.now
      l.links.passes.now l.links.sources.now
      l.initial.pool l.initial.system l.pool l.system;
  rises : l.initial.steps ≤ l.steps;
  few : l.steps ≤ l.initial.steps + 6 * count_by is_some (take l.place l.links.graph.now.places);
}
