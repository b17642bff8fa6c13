-- No level so far is used.
use Rattle.std.proofs.Common.{ℕ, ◌<◌, ◌≤◌}
use Rattle.node_elimination.specs.Levels.{IsUnused}
use Rattle.node_elimination.proofs.descent.lowest_level.Given as goal

abbrev pub invariant-loop-level : goal.invariant-loop-level
invariant-loop-level l = (s : ℕ) → 1 ≤ s → s < l.level → IsUnused l.graph s
