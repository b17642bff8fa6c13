-- How a wanted formula is chosen: one that stands, or a gate that is to be put.
use Rattle.std.specs.Prelude.{◌≡◌, ℕ, ◌<◌, ◌⊎◌, Bool, List, [], ◌∷◌, length}
use Rattle.bool_pool.specs.declared.gate.Gate.{Gate}
use Rattle.bool_pool.specs.declared.choice.Choice.{Choice}
use Rattle.bool_pool.specs.declared.choice.Choice.TheVariants.{Old, New}
use Rattle.bool_pool.specs.Gate.{gate_at, IsOperand, IsVariable}
use Rattle.bool_pool.specs.Value.{gate_value, value_at}
use Rattle.bool_pool.specs.Reach.{Reaches, AnyReaches}

-- the place is one of these
abbrev pub IsAmong : ℕ → List ℕ → Type 0
IsAmong k [] = ⊥
IsAmong k (i ∷ is) = (k ≡ i) ⊎ IsAmong k is

-- the gate's operands are places of the pool
abbrev pub IsOver : List Gate → Gate → Type 0
IsOver gates gate = (k : ℕ) → IsOperand gate k → k < length gates

-- the gate stands at the place r, and has its value on the values of its operands
pub record IsPlaced (gates : List Gate) (gate : Gate) (r : ℕ) : Type 0 where
  pub inside : r < length gates
  pub gate_is : gate_at gates r ≡ gate
  pub value_is : (vars : ℕ → Bool) → value_at gates vars r ≡ gate_value vars (value_at gates vars) gate

-- the formula at the place r has this value, and reaches nothing but what the operands reach
pub record Serves (gates : List Gate) (operands : List ℕ) (meaning : (ℕ → Bool) → Bool) (r : ℕ) : Type 0 where
  pub value_is : (vars : ℕ → Bool) → value_at gates vars r ≡ meaning vars
  pub reach : (j : ℕ) → Reaches gates r j → AnyReaches gates operands j

-- the gate is no variable, is over these operands alone, and has this value
pub record IsGateFor (gates : List Gate) (operands : List ℕ) (meaning : (ℕ → Bool) → Bool) (gate : Gate) : Type 0 where
  pub value_is : (vars : ℕ → Bool) → gate_value vars (value_at gates vars) gate ≡ meaning vars
  pub among : (k : ℕ) → IsOperand gate k → IsAmong k operands
  pub no_variable : (v : ℕ) → ¬ (IsVariable gate v)

-- the choice is a place of the pool, or a gate over such places
abbrev pub IsChoiceIn : List Gate → Choice → Type 0
IsChoiceIn gates (Old id) = id.place < length gates
IsChoiceIn gates (New gate) = IsOver gates gate

-- the choice gives a formula of this value that is made of these operands
abbrev pub Chooses : List Gate → List ℕ → ((ℕ → Bool) → Bool) → Choice → Type 0
Chooses gates operands meaning (Old id) = Serves gates operands meaning id.place
Chooses gates operands meaning (New gate) = IsGateFor gates operands meaning gate
