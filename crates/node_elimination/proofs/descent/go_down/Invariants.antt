-- The formulas are those of the level above the next one.
use Rattle.std.proofs.Common.{◌≡◌, ℕ, ◌+◌, ◌-◌, ◌*◌, ◌≤◌, Bool, List, ◌++◌}
use Rattle.ternary.specs.declared.tern.Tern.{Tern}
use Rattle.strength_order.specs.declared.TheConstants.{INPUT_LEVEL}
use Rattle.bool_pool.specs.Gate.{Extends}
use Rattle.node_elimination.specs.Growth.{Grows}
use Rattle.node_elimination.specs.LevelSystem.{AllLeft}
use Rattle.group_analysis.specs.Meaning.{switch_count}
use Rattle.node_elimination.specs.Inputs.{input_formulas, HaveInputs, ShowsState}
use Rattle.node_elimination.specs.Descent.{level_formulas, HaveLevels, ShowsLevel, level_cost}
use Rattle.node_elimination.proofs.descent.go_down.Given as goal

abbrev pub invariant-loop-done : goal.invariant-loop-done
invariant-loop-done g l = record {
  extends : Extends l.initial.pool l.pool;
  size : l.system.size ≡ l.members;
  left : AllLeft l.system;
  inputs : HaveInputs l.graph l.pool l.inputs;
  levels : HaveLevels l.members l.pool l.levels;
  shows : (state : List Tern) (vars : ℕ → Bool) → ShowsState l.graph l.initial.pool l.inputs state vars →
      ShowsLevel l.graph l.members l.pool l.levels (INPUT_LEVEL + 1 - l.done) state vars;
  grows : Grows l.initial.pool (input_formulas l.inputs) l.pool (input_formulas l.inputs ++ level_formulas l.levels)
      (l.steps - l.initial.steps);
  rises : l.initial.steps ≤ l.steps;
  few : l.steps ≤ l.initial.steps + l.done * level_cost l.members (switch_count l.graph);
}
