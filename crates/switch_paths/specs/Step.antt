-- The steady state of a node, and the unit step that gives every node its steady state at once.
-- After Bryant, "Boolean Analysis of MOS Circuits", 1987.
use Rattle.std.specs.Prelude.{◌≡◌, ℕ, ◌<◌, ◌↔◌, Bool, true, List, length}
use Rattle.ternary.specs.declared.tern.Tern.{Tern}
use Rattle.ternary.specs.Tern.{may_one, may_zero}
use Rattle.switch_paths.specs.Switching.{state_at}
use Rattle.switch_paths.specs.Graphs.{GraphData, nodes}
use Rattle.switch_paths.specs.Path.{Reaches}

-- some unblocked path to the node has a root whose state has this rail
abbrev pub Responds : (Tern → Bool) → GraphData → List Tern → ℕ → Type 0
Responds rail g state node =
    (root : ℕ) × Reaches g state root node × (rail (state_at state root) ≡ true)

-- the steady state of a node: it may be 1 exactly if the root of some unblocked path to it may be 1, and likewise for 0
pub record IsResponse (g : GraphData) (state : List Tern) (node : ℕ) (answer : Tern) : Type 0 where
  pub one : (may_one answer ≡ true) ↔ Responds may_one g state node
  pub zero : (may_zero answer ≡ true) ↔ Responds may_zero g state node

-- the unit step: every node takes its steady state, all under the same old state
pub record IsStep (g : GraphData) (state new : List Tern) : Type 0 where
  pub count : length new ≡ nodes g
  pub each : (node : ℕ) → node < nodes g → IsResponse g state node (state_at new node)
