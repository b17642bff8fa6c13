-- The formulas so far are negated.
use Rattle.std.proofs.Common.{◌+◌, ◌-◌, ◌≤◌}
use Rattle.bool_pool.specs.Gate.{Extends}
use Rattle.node_elimination.specs.Growth.{Grows}
use Rattle.node_elimination.specs.Descent.{AreNegations}
use Rattle.node_elimination.proofs.descent.negations.Given as goal

abbrev pub invariant-loop-i : goal.invariant-loop-i
invariant-loop-i g l = record {
  extends : Extends l.initial.pool l.pool;
  negated : AreNegations l.initial.pool l.ids l.i l.pool l.negations.items;
  grows : Grows l.initial.pool l.ids l.pool l.negations.items (l.steps - l.initial.steps);
  rises : l.initial.steps ≤ l.steps;
  few : l.steps ≤ l.initial.steps + l.i;
}
