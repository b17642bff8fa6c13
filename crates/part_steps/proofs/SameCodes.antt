-- Codes are compared by equality: instructions and outputs that `==` takes as equal are equal, and so are lists of them.
use Rattle.std.proofs.Common.{◌≡◌, Bool, true, List, [], ◌∷◌, true≢false, refl, sym, ap, ◌∙◌, rules}
use Rattle.std.specs.Cmp.Lexicographic.{pointwise}
use Rattle.std.proofs.lemmas.Bool.{and_parts}
use Rattle.straight_code.specs.declared.code.Operand.{Operand}
use Rattle.straight_code.specs.declared.code.Instruction.{Instruction}
use Rattle.straight_code.specs.declared.code.Instruction.TheVariants.{Not, And, Or}
use Rattle.straight_code.specs.declared.code.Output.{Output}
use Rattle.straight_code.specs.contracts.code.OperandPartialEq.TheImpl as operand
use Rattle.straight_code.specs.contracts.code.InstructionPartialEq.TheImpl as instruction
use Rattle.straight_code.specs.contracts.code.OutputPartialEq.TheImpl as output

operand_same : (a b : Operand) → operand.eq-value.it a b ≡ true → a ≡ b
operand_same a b e = search rules

pub instruction_same : (a b : Instruction) → instruction.eq-value.it a b ≡ true → a ≡ b
instruction_same (Not a) (Not c) e = ap Not (operand_same a c e)
instruction_same (Not a) (And c d) e = absurd (true≢false (sym e))
instruction_same (Not a) (Or c d) e = absurd (true≢false (sym e))
instruction_same (And a b) (Not c) e = absurd (true≢false (sym e))
instruction_same (And a b) (And c d) e =
    let both = and_parts (operand.eq-value.it a c) (operand.eq-value.it b d) e in
    ap (λ one. And one b) (operand_same a c both.0) ∙ ap (And c) (operand_same b d both.1)
instruction_same (And a b) (Or c d) e = absurd (true≢false (sym e))
instruction_same (Or a b) (Not c) e = absurd (true≢false (sym e))
instruction_same (Or a b) (And c d) e = absurd (true≢false (sym e))
instruction_same (Or a b) (Or c d) e =
    let both = and_parts (operand.eq-value.it a c) (operand.eq-value.it b d) e in
    ap (λ one. Or one b) (operand_same a c both.0) ∙ ap (Or c) (operand_same b d both.1)

pub output_same : (a b : Output) → output.eq-value.it a b ≡ true → a ≡ b
output_same a b e = search rules

pub same_lists : {X : Type 0} (E : X → X → Bool) → ((x y : X) → E x y ≡ true → x ≡ y) → (xs ys : List X) → pointwise E xs ys ≡ true → xs ≡ ys
same_lists E same [] [] e = refl
same_lists E same [] (y ∷ ys) e = absurd (true≢false (sym e))
same_lists E same (x ∷ xs) [] e = absurd (true≢false (sym e))
same_lists E same (x ∷ xs) (y ∷ ys) e =
    let both = and_parts (E x y) (pointwise E xs ys) e in
    ap (λ one. one ∷ xs) (same x y both.0) ∙ ap (λ list. y ∷ list) (same_lists E same xs ys both.1)
