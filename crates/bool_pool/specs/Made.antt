-- What is known of a formula that was made from others.
use Rattle.std.specs.Prelude.{◌≡◌, ℕ, ◌<◌, ◌⊎◌, Bool, List, length}
use Rattle.bool_pool.specs.declared.gate.Gate.{Gate}
use Rattle.bool_pool.specs.Gate.{gate_at, IsVariable}
use Rattle.bool_pool.specs.Value.{value_at}
use Rattle.bool_pool.specs.Reach.{Reaches, AnyReaches, AllWithin, IsGrown}

-- the new formula is this gate alone, with this value under all variables
pub record IsLeaf (new : List Gate) (gate : Gate) (meaning : (ℕ → Bool) → Bool) (r : ℕ) : Type 0 where
  pub inside : r < length new
  pub gate_is : gate_at new r ≡ gate
  pub value_is : (vars : ℕ → Bool) → value_at new vars r ≡ meaning vars
  pub reach : (j : ℕ) → Reaches new r j → j ≡ r

-- the new formula has this value under all variables, and reaches nothing but its own gate, which is
-- no variable, and what its operands reached
pub record IsMade (old new : List Gate) (operands : List ℕ) (meaning : (ℕ → Bool) → Bool) (r : ℕ) : Type 0 where
  pub inside : r < length new
  pub value_is : (vars : ℕ → Bool) → value_at new vars r ≡ meaning vars
  pub reach : (j : ℕ) → Reaches new r j → ((j ≡ r) × ((v : ℕ) → ¬ (IsVariable (gate_at new j) v))) ⊎ AnyReaches old operands j

-- the same of a formula that several steps made: whatever places and variables its operands are
-- within, at most as many places more have to be listed for it as there were steps
pub record IsFormed (old new : List Gate) (steps : ℕ) (operands : List ℕ) (meaning : (ℕ → Bool) → Bool) (r : ℕ) : Type 0 where
  pub inside : r < length new
  pub value_is : (vars : ℕ → Bool) → value_at new vars r ≡ meaning vars
  pub grown : (listed : List ℕ) (bound : ℕ) → AllWithin old listed bound operands → IsGrown new listed bound steps r
