-- Straight-line code: instructions over the rails of inputs and the results of earlier instructions.
-- After Bryant, Beatty, Brace, Cho and Sheffler, "COSMOS: A Compiled Simulator for MOS Circuits", 1987.
use Rattle.std.specs.Prelude.{◌≡◌, ℕ, ◌<◌, Bool, false, not, ◌&&◌, ◌||◌, List, [], ◌∷◌, ◌++◌, length, map, fold, All, Some, slice_get, slice_index_or, unwrap_or}
use Rattle.ternary.specs.declared.tern.Tern.{Tern}
use Rattle.ternary.specs.declared.tern.Tern.TheVariants.{Unk}
use Rattle.ternary.specs.Tern.{may_one, may_zero, of_rails}
use Rattle.switch_paths.specs.Switching.{state_at}
use Rattle.straight_code.specs.declared.code.Operand.{Operand}
use Rattle.straight_code.specs.declared.code.Operand.TheVariants.{Constant, High, Low, Earlier}
use Rattle.straight_code.specs.declared.code.Instruction.{Instruction}
use Rattle.straight_code.specs.declared.code.Instruction.TheVariants.{Not, And, Or}
use Rattle.straight_code.specs.declared.code.Output.{Output}

-- code as contracts see it: how many inputs it has, its instructions in order, and its outputs
pub record CodeData : Type 0 where
  pub inputs : ℕ
  pub instructions : List Instruction
  pub outputs : List Output

-- the value of an operand, by the states of the inputs and the results so far
abbrev pub operand_value : List Tern → List Bool → Operand → Bool
operand_value input done (Constant b) = b
operand_value input done (High j) = may_one (state_at input j)
operand_value input done (Low j) = may_zero (state_at input j)
operand_value input done (Earlier k) = slice_index_or done k false

-- the result of an instruction
abbrev pub instruction_value : List Tern → List Bool → Instruction → Bool
instruction_value input done (Not a) = not (operand_value input done a)
instruction_value input done (And a b) = operand_value input done a && operand_value input done b
instruction_value input done (Or a b) = operand_value input done a || operand_value input done b

-- some results, and then that of the instruction that follows them
unfoldable pub with_result : List Tern → List Bool → Instruction → List Bool
with_result input done instruction = done ++ instruction_value input done instruction ∷ []

-- the results of all instructions, in order
unfoldable pub results : List Tern → List Instruction → List Bool
results input instructions = fold (with_result input) [] instructions

-- the state with these rails, X if neither is set
abbrev pub settled : Bool → Bool → Tern
settled one zero = unwrap_or (of_rails one zero) Unk

-- the state of an output
abbrev pub output_state : List Tern → List Bool → Output → Tern
output_state input done output = settled (operand_value input done output.hi) (operand_value input done output.lo)

-- what code gives for these states of its inputs: the states of its outputs
abbrev pub code_value : CodeData → List Tern → List Tern
code_value code input = map (output_state input (results input code.instructions)) code.outputs

-- the operand is a constant, a rail of one of so many inputs, or one of so many results
abbrev pub IsAllowed : ℕ → ℕ → Operand → Type 0
IsAllowed inputs count (Constant b) = Unit {0}
IsAllowed inputs count (High j) = j < inputs
IsAllowed inputs count (Low j) = j < inputs
IsAllowed inputs count (Earlier k) = k < count

-- each operand of the instruction is allowed
abbrev pub AreAllowed : ℕ → ℕ → Instruction → Type 0
AreAllowed inputs count (Not a) = IsAllowed inputs count a
AreAllowed inputs count (And a b) = IsAllowed inputs count a × IsAllowed inputs count b
AreAllowed inputs count (Or a b) = IsAllowed inputs count a × IsAllowed inputs count b

-- both operands of the output are allowed
pub record IsOutput (inputs count : ℕ) (output : Output) : Type 0 where
  pub hi : IsAllowed inputs count output.hi
  pub lo : IsAllowed inputs count output.lo

-- each instruction reads inputs and earlier results alone
abbrev pub ReadsEarlier : ℕ → List Instruction → Type 0
ReadsEarlier inputs instructions =
    (k : ℕ) (instruction : Instruction) → slice_get instructions k ≡ Some instruction → AreAllowed inputs k instruction

-- each instruction reads inputs and earlier results alone, each output inputs and results
pub record IsCode (code : CodeData) : Type 0 where
  pub reads : ReadsEarlier code.inputs code.instructions
  pub outputs : All (IsOutput code.inputs (length code.instructions)) code.outputs
