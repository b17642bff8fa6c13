-- What a formula reaches: the gates that it is made of.
use Rattle.std.specs.Prelude.{ℕ, ◌<◌, ◌≤◌, ◌⊎◌, List, [], ◌∷◌, ◌++◌, length, Contains}
use Rattle.bool_pool.specs.declared.gate.Gate.{Gate}
use Rattle.bool_pool.specs.Gate.{gate_at, IsOperand, IsOperation, IsVariable}

-- a formula reaches its own gate, and what its operands reach. An operand stands before its gate
pub data Reaches (gates : List Gate) : ℕ → ℕ → Type 0 where
  here : {i : ℕ} → Reaches gates i i
  through : {i j : ℕ} (k : ℕ) → k < i → IsOperand (gate_at gates i) k → Reaches gates k j → Reaches gates i j

-- one of these formulas reaches the gate at the place j
abbrev pub AnyReaches : List Gate → List ℕ → ℕ → Type 0
AnyReaches gates [] j = ⊥
AnyReaches gates (k ∷ ks) j = Reaches gates k j ⊎ AnyReaches gates ks j

-- the formula reaches this variable
pub record ReachesVar (gates : List Gate) (i v : ℕ) : Type 0 where
  pub place : ℕ
  pub reached : Reaches gates i place
  pub variable : IsVariable (gate_at gates place) v

-- each And, Or and Not that the formula reaches is listed, and each variable that it reaches is below the bound
pub record IsWithin (gates : List Gate) (listed : List ℕ) (bound i : ℕ) : Type 0 where
  pub inside : i < length gates
  pub operations : (j : ℕ) → Reaches gates i j → IsOperation (gate_at gates j) → Contains listed j
  pub variables : (v : ℕ) → ReachesVar gates i v → v < bound

-- each of these formulas is within them
abbrev pub AllWithin : List Gate → List ℕ → ℕ → List ℕ → Type 0
AllWithin gates listed bound [] = Unit {0}
AllWithin gates listed bound (i ∷ is) = IsWithin gates listed bound i × AllWithin gates listed bound is

-- at most so many places more have to be listed for this formula
pub record IsGrown (gates : List Gate) (listed : List ℕ) (bound count i : ℕ) : Type 0 where
  pub more : List ℕ
  pub few : length more ≤ count
  pub within : IsWithin gates (more ++ listed) bound i
