-- What a formula reaches: further gates leave it, and it goes down the pool.
use Rattle.std.proofs.Common.{ℕ, ◌<◌, ◌≤◌, List, [], ◌∷◌, length, sym, subst, inl, inr, arith}
use Rattle.bool_pool.specs.declared.gate.Gate.{Gate}
use Rattle.bool_pool.specs.Gate.{IsOperand, Extends}
use Rattle.bool_pool.specs.Reach.{Reaches, here, through, AnyReaches}
use Rattle.bool_pool.specs.Choice.{IsAmong}

-- a formula reaches no gate behind its own
pub Reaches-down : (gates : List Gate) (i j : ℕ) → Reaches gates i j → j ≤ i
Reaches-down gates i j here = omega arith
Reaches-down gates i j (through k before operand rest) = omega (arith, Reaches-down gates k j rest)

-- what a formula reaches reaches no more than the formula
pub Reaches-trans : (gates : List Gate) (i k j : ℕ) → Reaches gates i k → Reaches gates k j → Reaches gates i j
Reaches-trans gates i k j here next = next
Reaches-trans gates i k j (through m before operand rest) next =
    through m before operand (Reaches-trans gates m k j rest next)

-- a formula reaches nothing more when gates are added
pub Reaches-old : (old new : List Gate) (i j : ℕ) → Extends old new → i < length old → Reaches new i j → Reaches old i j
Reaches-old old new i j extends inside here = here
Reaches-old old new i j extends inside (through k before operand rest) =
    through k before (subst (λ g. IsOperand g k) (extends.kept i inside) operand)
    (Reaches-old old new k j extends (omega arith) rest)

-- and nothing less
pub Reaches-new : (old new : List Gate) (i j : ℕ) → Extends old new → i < length old → Reaches old i j → Reaches new i j
Reaches-new old new i j extends inside here = here
Reaches-new old new i j extends inside (through k before operand rest) =
    through k before (subst (λ g. IsOperand g k) (sym (extends.kept i inside)) operand)
    (Reaches-new old new k j extends (omega arith) rest)

-- what one of some formulas reaches is reached by them
pub AnyReaches-among : (gates : List Gate) (operands : List ℕ) (k j : ℕ) → IsAmong k operands → Reaches gates k j
    → AnyReaches gates operands j
AnyReaches-among gates [] k j among reached = absurd among
AnyReaches-among gates (i ∷ is) k j (inl same) reached = inl (subst (λ m. Reaches gates m j) same reached)
AnyReaches-among gates (i ∷ is) k j (inr among) reached = inr (AnyReaches-among gates is k j among reached)
