-- A step that leaves the switches as they were leads to a steady state.
-- The same paths are unblocked before and after it. A root that sets a rail at a node reaches itself, so it has
-- the rail after the step too; and what sets a rail after the step had it from a root that reaches on, so no
-- rail is new.
use Rattle.std.proofs.Common.{◌≡◌, ℕ, ◌<◌, ◌↔◌, Bool, true, List}
use Rattle.ternary.specs.declared.tern.Tern.{Tern}
use Rattle.ternary.specs.Tern.{may_one, may_zero}
use Rattle.switch_paths.specs.Switching.{state_at}
use Rattle.switch_paths.specs.Graphs.{GraphData, nodes}
use Rattle.switch_paths.specs.Step.{Responds}
use Rattle.switch_paths.specs.Laws.{SameSwitches, StepsRest}
use Rattle.switch_paths.proofs.JoinedPaths.{reach_on, roots_reach}
use Rattle.switch_paths.proofs.SameSwitchesLemmas.{SameSwitches-sym, Reaches-same}

-- a state, its step under the same switches, and a rail that the step sets where the node responds with it
module _ (g : GraphData) (state next : List Tern) (same : SameSwitches g state next) (rail : Tern → Bool)
    (sets : (node : ℕ) → node < nodes g → (rail (state_at next node) ≡ true) ↔ Responds rail g state node) where
  -- a root that sets the rail before the step sets it after the step
  responds_again : (node : ℕ) → Responds rail g state node → Responds rail g next node
  responds_again node way =
      let root = way.0 in
      let itself = roots_reach g state root node way.1 in
      (root, Reaches-same g state next same root node way.1, (sets root way.1.path.in_range).1 (root, itself, way.2))

  -- what sets the rail after the step had it from a root that reaches on
  responded_before : (node : ℕ) → Responds rail g next node → Responds rail g state node
  responded_before node way =
      let root = way.0 in
      let first = (sets root way.1.path.in_range).0 way.2 in
      let reached = Reaches-same g next state (SameSwitches-sym g state next same) root node way.1 in
      (first.0, reach_on g state first.0 root node first.1 reached, first.2)

  -- so a second step has the rail at the same nodes
  rest_responds : (node : ℕ) → node < nodes g → (rail (state_at next node) ≡ true) ↔ Responds rail g next node
  rest_responds node in_range =
      ((λ set. responds_again node ((sets node in_range).0 set)), (λ way. (sets node in_range).1 (responded_before node way)))

-- the step is idempotent while the switches stay as they are
pub steps_rest : StepsRest
steps_rest g wired state next count step same = record {
  count = step.count;
  each = λ node in_range. record {
    one = rest_responds g state next same may_one (λ m inside. (step.each m inside).one) node in_range;
    zero = rest_responds g state next same may_zero (λ m inside. (step.each m inside).zero) node in_range;
  };
}
