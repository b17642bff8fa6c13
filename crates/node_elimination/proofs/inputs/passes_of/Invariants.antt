-- What the switches do at the places so far.
use Rattle.std.proofs.Common.{◌+◌, ◌*◌, ◌≤◌, take}
use Rattle.std.specs.Prelude.{is_some, count_by}
use Rattle.bool_pool.specs.Gate.{Extends}
use Rattle.node_elimination.specs.Inputs.{ArePasses}
use Rattle.node_elimination.proofs.inputs.passes_of.Given as goal

abbrev pub invariant-loop-place : goal.invariant-loop-place
invariant-loop-place g l = record {
  extends : Extends l.initial.pool l.pool;
  passes : ArePasses l.graph l.sure l.initial.pool l.hi l.lo l.place l.pool l.passes.items;
  rises : l.initial.steps ≤ l.steps;
  few : l.steps ≤ l.initial.steps + 2 * count_by is_some (take l.place l.graph.places);
}
