-- Code as it is made from a pool's gates, place by place: an operation adds an instruction, and each place has an operand with its value.
use Rattle.std.specs.Prelude.{◌≡◌, ℕ, ◌/◌, ◌%◌, Bool, true, false, List, [], ◌∷◌, ◌++◌, length, filter, Contains, Option, Some, IsSome, slice_get, unwrap_or, if◌then◌else◌, ◌==◌}
use Rattle.ternary.specs.declared.tern.Tern.{Tern}
use Rattle.bool_pool.specs.declared.gate.Gate.{Gate}
use Rattle.bool_pool.specs.declared.gate.Gate.TheVariants.{False, True, Var, Not, And, Or}
use Rattle.bool_pool.specs.declared.gate.Rails.{Rails}
use Rattle.bool_pool.specs.Gate.{gate_at}
use Rattle.bool_pool.specs.Value.{value_at}
use Rattle.dual_rail.specs.Variables.{AreVariables}
use Rattle.straight_code.specs.declared.code.Operand.{Operand}
use Rattle.straight_code.specs.declared.code.Operand.TheVariants.{Constant, High, Low, Earlier}
use Rattle.straight_code.specs.declared.code.Instruction.{Instruction}
use Rattle.straight_code.specs.declared.code.Instruction.TheVariants as instruction
use Rattle.straight_code.specs.declared.code.Output.{Output}
use Rattle.straight_code.specs.Code.{operand_value, results, IsAllowed, AreAllowed}

-- the gate is an And, an Or or a Not
abbrev pub is_operation : Gate → Bool
is_operation False = false
is_operation True = false
is_operation (Var v) = false
is_operation (Not a) = true
is_operation (And a b) = true
is_operation (Or a b) = true

-- those of the places at which an operation stands
abbrev pub operations : List Gate → List ℕ → List ℕ
operations gates places = filter (λ place. is_operation (gate_at gates place)) places

-- the rail that a variable stands for
abbrev pub rail_of : ℕ → Operand
rail_of v = if v % 2 == 0 then High (v / 2) else Low (v / 2)

-- what is noted for a place
abbrev pub operand_at : (ℕ → Option Operand) → ℕ → Operand
operand_at noted place = unwrap_or (noted place) (Constant false)

-- some instructions, and then that of the gate if it is an operation
abbrev pub with_gate : (ℕ → Option Operand) → List Instruction → Gate → List Instruction
with_gate noted instructions False = instructions
with_gate noted instructions True = instructions
with_gate noted instructions (Var v) = instructions
with_gate noted instructions (Not a) = instructions ++ instruction.Not (operand_at noted a.place) ∷ []
with_gate noted instructions (And a b) = instructions ++ instruction.And (operand_at noted a.place) (operand_at noted b.place) ∷ []
with_gate noted instructions (Or a b) = instructions ++ instruction.Or (operand_at noted a.place) (operand_at noted b.place) ∷ []

-- the operand that then has the gate's value, if there were so many instructions before
abbrev pub gate_operand : ℕ → Gate → Operand
gate_operand count False = Constant false
gate_operand count True = Constant true
gate_operand count (Var v) = rail_of v
gate_operand count (Not a) = Earlier count
gate_operand count (And a b) = Earlier count
gate_operand count (Or a b) = Earlier count

-- the output for a pair of formulas
abbrev pub output_of : (ℕ → Option Operand) → Rails → Output
output_of noted rails = record { hi = operand_at noted rails.hi.place; lo = operand_at noted rails.lo.place }

-- something is noted for both formulas of a pair
pub record AreNoted (noted : ℕ → Option Operand) (rails : Rails) : Type 0 where
  pub hi : IsSome (noted rails.hi.place)
  pub lo : IsSome (noted rails.lo.place)

-- in every state of so many inputs, under its variables, the operand has the value of the formula at this place
pub record IsValueOf (gates : List Gate) (inputs : ℕ) (instructions : List Instruction) (place : ℕ) (operand : Operand) : Type 0 where
  pub allowed : IsAllowed inputs (length instructions) operand
  pub value_is : (input : List Tern) (vars : ℕ → Bool) → length input ≡ inputs → AreVariables input vars
      → operand_value input (results input instructions) operand ≡ value_at gates vars place

-- these places were lowered: each instruction reads inputs and earlier results alone, each place has an operand, what is noted has
-- its formula's value, and there is one instruction for each operation
pub record AreLowered (gates : List Gate) (inputs : ℕ) (places : List ℕ) (instructions : List Instruction) (noted : ℕ → Option Operand) : Type 0 where
  pub reads : (k : ℕ) (next : Instruction) → slice_get instructions k ≡ Some next → AreAllowed inputs k next
  pub each : (place : ℕ) → Contains places place → IsSome (noted place)
  pub values : (place : ℕ) (operand : Operand) → noted place ≡ Some operand → IsValueOf gates inputs instructions place operand
  pub number : length instructions ≡ length (operations gates places)
