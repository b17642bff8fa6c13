-- Formulas that tell what a switch does from the two rails of its gate.
-- After Bryant, "Boolean Analysis of MOS Circuits", 1987.
use Rattle.std.specs.Prelude.{◌≡◌, ℕ, ◌<◌, ◌⊎◌, Bool, List, [], ◌∷◌, length}
use Rattle.ternary.specs.declared.tern.Tern.{Tern}
use Rattle.ternary.specs.Tern.{may_one, may_zero}
use Rattle.switch_paths.specs.declared.switching.SwitchKind.{SwitchKind}
use Rattle.switch_paths.specs.declared.switching.SwitchState.{SwitchState}
use Rattle.switch_paths.specs.Switching.{state_by}
use Rattle.bool_pool.specs.declared.gate.Gate.{Gate}
use Rattle.bool_pool.specs.declared.gate.Rails.{Rails}
use Rattle.bool_pool.specs.Gate.{gate_at, IsVariable}
use Rattle.bool_pool.specs.Value.{value_at}
use Rattle.bool_pool.specs.Reach.{Reaches, AnyReaches}

-- both rails are formulas of the pool
pub record AreInside (gates : List Gate) (rails : Rails) : Type 0 where
  pub hi : rails.hi.place < length gates
  pub lo : rails.lo.place < length gates

-- under these values of the variables the rails are those of the state
pub record AreRailsOf (gates : List Gate) (vars : ℕ → Bool) (rails : Rails) (state : Tern) : Type 0 where
  pub one : value_at gates vars rails.hi.place ≡ may_one state
  pub zero : value_at gates vars rails.lo.place ≡ may_zero state

-- wherever the gate's rails are those of a state, the formula is true exactly if the switch's
-- state passes the test; it reaches nothing but its own gate, which is no variable, and what the
-- rails reached
pub record Tells (test : SwitchState → Bool) (old new : List Gate) (kind : SwitchKind) (gate : Rails) (r : ℕ) : Type 0 where
  pub inside : r < length new
  pub value_is : (vars : ℕ → Bool) (state : Tern) → AreRailsOf old vars gate state → value_at new vars r ≡ test (state_by kind state)
  pub reach : (j : ℕ) → Reaches new r j
      → ((j ≡ r) × ((v : ℕ) → ¬ (IsVariable (gate_at new j) v))) ⊎ AnyReaches old (gate.hi.place ∷ gate.lo.place ∷ []) j
