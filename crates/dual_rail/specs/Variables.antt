-- The variables of a state: two for each node.
use Rattle.std.specs.Prelude.{◌≡◌, ℕ, ◌+◌, ◌*◌, ◌<◌, Bool, List, length}
use Rattle.ternary.specs.declared.tern.Tern.{Tern}
use Rattle.ternary.specs.Tern.{may_one, may_zero}
use Rattle.switch_paths.specs.Switching.{state_at}

-- the variables 2j and 2j + 1 are the rails of node j, "may be 1" and "may be 0"
pub record AreVariables (state : List Tern) (vars : ℕ → Bool) : Type 0 where
  pub one : (node : ℕ) → node < length state → vars (2 * node) ≡ may_one (state_at state node)
  pub zero : (node : ℕ) → node < length state → vars (2 * node + 1) ≡ may_zero (state_at state node)
