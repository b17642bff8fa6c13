-- The results of instructions: further instructions leave them, and each is its instruction's on those before it.
use Rattle.std.proofs.Common.{◌≡◌, ℕ, ◌+◌, ◌≤◌, Bool, false, List, [], ◌∷◌, ◌++◌, length, fold, refl, ◌∙◌, arith}
use Rattle.std.proofs.lemmas.List.{get_or_append_left, get_or_at, length-append}
use Rattle.std.proofs.lemmas.List.Sums.{fold-append}
use Rattle.ternary.specs.declared.tern.Tern.{Tern}
use Rattle.straight_code.specs.declared.code.Operand.{Operand}
use Rattle.straight_code.specs.declared.code.Operand.TheVariants.{Constant, High, Low, Earlier}
use Rattle.straight_code.specs.declared.code.Instruction.{Instruction}
use Rattle.straight_code.specs.Code.{operand_value, instruction_value, with_result, results, IsAllowed}

-- further instructions add one result each
length-fold : (input : List Tern) (done : List Bool) (instructions : List Instruction)
    → length (fold (with_result input) done instructions) ≡ length done + length instructions
unfolding with_result
length-fold input done [] = omega arith
length-fold input done (instruction ∷ instructions) =
    let step = length-fold input (with_result input done instruction) instructions in
    omega (arith, step, length-append done (instruction_value input done instruction ∷ []))

-- there is one result for each instruction
pub length-results : (input : List Tern) (instructions : List Instruction)
    → length (results input instructions) ≡ length instructions
unfolding results
length-results input instructions = length-fold input [] instructions ∙ omega arith

-- the results of some instructions and one more
pub results-more : (input : List Tern) (instructions : List Instruction) (instruction : Instruction)
    → results input (instructions ++ instruction ∷ []) ≡ results input instructions ++ instruction_value input (results input instructions) instruction ∷ []
unfolding results with_result
results-more input instructions instruction = fold-append (with_result input) [] instructions (instruction ∷ [])

-- what is allowed stays so when there are more results
pub IsAllowed-more : (inputs count more : ℕ) (operand : Operand) → IsAllowed inputs count operand → count ≤ more
    → IsAllowed inputs more operand
IsAllowed-more inputs count more (Constant b) allowed longer = tt
IsAllowed-more inputs count more (High j) allowed longer = allowed
IsAllowed-more inputs count more (Low j) allowed longer = allowed
IsAllowed-more inputs count more (Earlier k) allowed longer = omega arith

-- an operand keeps its value when results are added
pub operand_value-more : (input : List Tern) (done more : List Bool) (inputs count : ℕ) (operand : Operand)
    → count ≤ length done → IsAllowed inputs count operand
    → operand_value input (done ++ more) operand ≡ operand_value input done operand
operand_value-more input done more inputs count (Constant b) enough allowed = refl
operand_value-more input done more inputs count (High j) enough allowed = refl
operand_value-more input done more inputs count (Low j) enough allowed = refl
operand_value-more input done more inputs count (Earlier k) enough allowed =
    get_or_append_left done more false k (omega arith)

-- an operand keeps its value when an instruction is added
pub operand_value-added : (input : List Tern) (instructions : List Instruction) (instruction : Instruction) (inputs : ℕ) (operand : Operand)
    → IsAllowed inputs (length instructions) operand
    → operand_value input (results input (instructions ++ instruction ∷ [])) operand ≡ operand_value input (results input instructions) operand
operand_value-added input instructions instruction inputs operand allowed =
    let done = results input instructions in
    let enough : length instructions ≤ length done = omega (arith, length-results input instructions) in
    rw (results-more input instructions instruction)
    (operand_value-more input done (instruction_value input done instruction ∷ []) inputs (length instructions) operand enough allowed)

-- the result of the instruction that follows some instructions
pub earlier-added : (input : List Tern) (instructions : List Instruction) (instruction : Instruction)
    → operand_value input (results input (instructions ++ instruction ∷ [])) (Earlier (length instructions)) ≡ instruction_value input (results input instructions) instruction
earlier-added input instructions instruction =
    let done = results input instructions in
    rw (results-more input instructions instruction)
    (get_or_at done (instruction_value input done instruction) [] false (length instructions) (length-results input instructions))
