-- No switch so far has the level.
use Rattle.std.proofs.Common.{◌≡◌, ◌≢◌, ℕ, ◌<◌, Some}
use Rattle.switch_paths.specs.declared.switching.Switch.{Switch}
use Rattle.switch_paths.specs.Graphs.{place_at}
use Rattle.node_elimination.proofs.descent.has_switch.Given as goal

abbrev pub invariant-loop-place : goal.invariant-loop-place
invariant-loop-place l =
    (place : ℕ) → place < l.place → (switch : Switch) → place_at l.graph.places place ≡ Some switch → switch.level ≢ l.level
