-- The texts of operands, instructions and outputs: no two of them have the same text.
use Rattle.std.proofs.Common.{◌≡◌, ◌≢◌, ℕ, ◌≤◌, ◌<◌, ◌^◌, true, false, List, [], ◌∷◌, ◌++◌, codes, decimal, refl, sym, ◌∙◌, ap, arith, append_assoc, get_or, rules}
use Rattle.std.proofs.lemmas.List.Elements.{All-nil, All-cons, All-append, All-weaker}
use Rattle.std.proofs.lemmas.Fmt.{decimal_injective}
use Rattle.straight_code.specs.declared.code.Operand.{Operand}
use Rattle.straight_code.specs.declared.code.Operand.TheVariants.{Constant, High, Low, Earlier}
use Rattle.straight_code.specs.declared.code.Instruction.{Instruction}
use Rattle.straight_code.specs.declared.code.Instruction.TheVariants.{Not, And, Or}
use Rattle.straight_code.specs.declared.code.Output.{Output}
use Rattle.straight_code.specs.Code.{IsAllowed, AreAllowed, IsOutput}
use Rattle.linear_code.specs.ListingText.{operand_text, instruction_text}
use Rattle.linear_code.specs.Adding.{output_text}
use Rattle.linear_code.proofs.TextLemmas.{Lacks, Lacks-cut, IsFrom, Lacks-from, cut-same, IsFrom-decimal}

-- so many nodes and results can be numbered
pub record IsSmall (nodes results : ℕ) : Type 0 where
  pub few_nodes : nodes < 2 ^ 64
  pub few_results : results < 2 ^ 64

-- a letter and a number
lettered : (letter n : ℕ) → 33 ≤ letter → n < 2 ^ 64 → IsFrom 33 (letter ∷ decimal n)
lettered letter n visible small =
    All-cons (λ byte. 33 ≤ byte) letter (decimal n) visible
    (All-weaker (λ byte. 48 ≤ byte) (λ byte. 33 ≤ byte) (λ byte h. omega arith) (decimal n) (IsFrom-decimal n small))

-- the text of an operand has no space and no LF
pub IsFrom-operand : (nodes results : ℕ) (operand : Operand) → IsSmall nodes results → IsAllowed nodes results operand
    → IsFrom 33 (operand_text operand)
IsFrom-operand nodes results (Constant true) small allowed = All-cons (λ byte. 33 ≤ byte) 49 [] (omega arith) (All-nil (λ byte. 33 ≤ byte))
IsFrom-operand nodes results (Constant false) small allowed = All-cons (λ byte. 33 ≤ byte) 48 [] (omega arith) (All-nil (λ byte. 33 ≤ byte))
IsFrom-operand nodes results (High j) small allowed = lettered 104 j (omega arith) (omega arith)
IsFrom-operand nodes results (Low j) small allowed = lettered 108 j (omega arith) (omega arith)
IsFrom-operand nodes results (Earlier k) small allowed = lettered 116 k (omega arith) (omega arith)

-- operands with the same text are the same
pub operand_text-same : (nodes results : ℕ) (a b : Operand) → IsSmall nodes results → IsAllowed nodes results a → IsAllowed nodes results b
    → operand_text a ≡ operand_text b → a ≡ b
operand_text-same nodes results (Constant true) (Constant true) small first second same = refl
operand_text-same nodes results (Constant false) (Constant false) small first second same = refl
operand_text-same nodes results (High j) (High k) small first second same =
    ap High (decimal_injective j k (omega arith) (omega arith) (cc))
operand_text-same nodes results (Low j) (Low k) small first second same =
    ap Low (decimal_injective j k (omega arith) (omega arith) (cc))
operand_text-same nodes results (Earlier j) (Earlier k) small first second same =
    ap Earlier (decimal_injective j k (omega arith) (omega arith) (cc))
operand_text-same nodes results (Constant true) b small first second same = absurd (omega (arith, ap (λ text. get_or text 0 0) same))
operand_text-same nodes results (Constant false) b small first second same = absurd (omega (arith, ap (λ text. get_or text 0 0) same))
operand_text-same nodes results a (Constant true) small first second same = absurd (omega (arith, ap (λ text. get_or text 0 0) same))
operand_text-same nodes results a (Constant false) small first second same = absurd (omega (arith, ap (λ text. get_or text 0 0) same))
operand_text-same nodes results a b small first second same = absurd (omega (arith, ap (λ text. get_or text 0 0) same))

-- no operand is written as the mark of a Not
operand_text-no_mark : (a : Operand) → operand_text a ≢ 33 ∷ []
operand_text-no_mark (Constant true) same = absurd (omega (arith, ap (λ text. get_or text 0 0) same))
operand_text-no_mark (Constant false) same = absurd (omega (arith, ap (λ text. get_or text 0 0) same))
operand_text-no_mark (High j) same = absurd (omega (arith, ap (λ text. get_or text 0 0) same))
operand_text-no_mark (Low j) same = absurd (omega (arith, ap (λ text. get_or text 0 0) same))
operand_text-no_mark (Earlier k) same = absurd (omega (arith, ap (λ text. get_or text 0 0) same))

-- the first word of an instruction
abbrev pub first_word : Instruction → List ℕ
first_word (Not a) = 33 ∷ []
first_word (And a b) = operand_text a
first_word (Or a b) = operand_text a

-- the words behind it
abbrev pub other_words : Instruction → List ℕ
other_words (Not a) = operand_text a
other_words (And a b) = 38 ∷ 32 ∷ operand_text b
other_words (Or a b) = 124 ∷ 32 ∷ operand_text b

-- an instruction is its first word, a space and the other words
instruction_text-words : (instruction : Instruction) → instruction_text instruction ≡ first_word instruction ++ 32 ∷ other_words instruction
instruction_text-words (Not a) = refl
instruction_text-words (And a b) = append_assoc (operand_text a) (codes " & ") (operand_text b)
instruction_text-words (Or a b) = append_assoc (operand_text a) (codes " | ") (operand_text b)

-- the first word has no space
IsFrom-first_word : (nodes results : ℕ) (instruction : Instruction) → IsSmall nodes results → AreAllowed nodes results instruction
    → IsFrom 33 (first_word instruction)
IsFrom-first_word nodes results (Not a) small allowed = All-cons (λ byte. 33 ≤ byte) 33 [] (omega arith) (All-nil (λ byte. 33 ≤ byte))
IsFrom-first_word nodes results (And a b) small allowed = IsFrom-operand nodes results a small allowed.0
IsFrom-first_word nodes results (Or a b) small allowed = IsFrom-operand nodes results a small allowed.0

-- instructions with the same words are the same
words-same : (nodes results : ℕ) (a b : Instruction) → IsSmall nodes results → AreAllowed nodes results a → AreAllowed nodes results b
    → first_word a ≡ first_word b → other_words a ≡ other_words b → a ≡ b
words-same nodes results (Not a) (Not b) small first second same more = ap Not (operand_text-same nodes results a b small first second more)
words-same nodes results (Not a) (And b d) small first second same more = absurd (operand_text-no_mark b (sym same))
words-same nodes results (Not a) (Or b d) small first second same more = absurd (operand_text-no_mark b (sym same))
words-same nodes results (And a c) (Not b) small first second same more = absurd (operand_text-no_mark a same)
words-same nodes results (And a c) (And b d) small first second same more =
    let left = operand_text-same nodes results a b small first.0 second.0 same in
    let right = operand_text-same nodes results c d small first.1 second.1 (cc) in
    cc
words-same nodes results (And a c) (Or b d) small first second same more = absurd (omega (arith, ap (λ text. get_or text 0 0) more))
words-same nodes results (Or a c) (Not b) small first second same more = absurd (operand_text-no_mark a same)
words-same nodes results (Or a c) (And b d) small first second same more = absurd (omega (arith, ap (λ text. get_or text 0 0) more))
words-same nodes results (Or a c) (Or b d) small first second same more =
    let left = operand_text-same nodes results a b small first.0 second.0 same in
    let right = operand_text-same nodes results c d small first.1 second.1 (cc) in
    cc

-- instructions with the same text are the same
pub instruction_text-same : (nodes results : ℕ) (a b : Instruction) → IsSmall nodes results → AreAllowed nodes results a
    → AreAllowed nodes results b → instruction_text a ≡ instruction_text b → a ≡ b
instruction_text-same nodes results a b small first second same =
    let words : first_word a ++ 32 ∷ other_words a ≡ first_word b ++ 32 ∷ other_words b =
    sym (instruction_text-words a) ∙ same ∙ instruction_text-words b in
    let parts = cut-same 32 _ _ _ _ (Lacks-from 32 33 (first_word a) (omega arith) (IsFrom-first_word nodes results a small first))
    (Lacks-from 32 33 (first_word b) (omega arith) (IsFrom-first_word nodes results b small second)) words in
    words-same nodes results a b small first second parts.0 parts.1

-- visible bytes are no control characters
visible : (text : List ℕ) → IsFrom 33 text → IsFrom 32 text
visible text from = All-weaker (λ byte. 33 ≤ byte) (λ byte. 32 ≤ byte) (λ byte h. omega arith) text from

-- the text of an instruction has no LF
pub IsFrom-instruction : (nodes results : ℕ) (instruction : Instruction) → IsSmall nodes results → AreAllowed nodes results instruction
    → IsFrom 32 (instruction_text instruction)
IsFrom-instruction nodes results (Not a) small allowed =
    All-append (λ byte. 32 ≤ byte) (codes "! ") (operand_text a) (search rules) (visible _ (IsFrom-operand nodes results a small allowed))
IsFrom-instruction nodes results (And a b) small allowed =
    All-append (λ byte. 32 ≤ byte) (operand_text a ++ codes " & ") (operand_text b)
    (All-append (λ byte. 32 ≤ byte) (operand_text a) (codes " & ") (visible _ (IsFrom-operand nodes results a small allowed.0)) (search rules))
    (visible _ (IsFrom-operand nodes results b small allowed.1))
IsFrom-instruction nodes results (Or a b) small allowed =
    All-append (λ byte. 32 ≤ byte) (operand_text a ++ codes " | ") (operand_text b)
    (All-append (λ byte. 32 ≤ byte) (operand_text a) (codes " | ") (visible _ (IsFrom-operand nodes results a small allowed.0)) (search rules))
    (visible _ (IsFrom-operand nodes results b small allowed.1))

-- the output with these operands
abbrev output_of : Operand → Operand → Output
output_of hi lo = record { hi = hi; lo = lo }

-- outputs with the same text are the same
pub output_text-same : (nodes results : ℕ) (a b : Output) → IsSmall nodes results → IsOutput nodes results a → IsOutput nodes results b
    → output_text a ≡ output_text b → a ≡ b
output_text-same nodes results a b small first second same =
    let parts = cut-same 32 (operand_text a.hi) (operand_text a.lo) (operand_text b.hi) (operand_text b.lo)
    (Lacks-from 32 33 (operand_text a.hi) (omega arith) (IsFrom-operand nodes results a.hi small first.hi))
    (Lacks-from 32 33 (operand_text b.hi) (omega arith) (IsFrom-operand nodes results b.hi small second.hi)) same in
    let high = operand_text-same nodes results a.hi b.hi small first.hi second.hi parts.0 in
    let low = operand_text-same nodes results a.lo b.lo small first.lo second.lo parts.1 in
    ap (λ hi. output_of hi a.lo) high ∙ ap (output_of b.hi) low

-- the text of an output has no LF
pub IsFrom-output : (nodes results : ℕ) (output : Output) → IsSmall nodes results → IsOutput nodes results output
    → IsFrom 32 (output_text output)
IsFrom-output nodes results output small allowed =
    All-append (λ byte. 32 ≤ byte) (operand_text output.hi) (32 ∷ operand_text output.lo) (visible _ (IsFrom-operand nodes results output.hi small allowed.hi))
    (All-cons (λ byte. 32 ≤ byte) 32 (operand_text output.lo) (omega arith) (visible _ (IsFrom-operand nodes results output.lo small allowed.lo)))

-- a text without a space is no output
pub output-no_space : (bytes : List ℕ) → Lacks 32 bytes → (output : Output) → bytes ≢ output_text output
output-no_space bytes lacks output same = Lacks-cut 32 (operand_text output.hi) (operand_text output.lo) (rw same at lacks)

-- the operands of an output are what stands before and behind the first space
pub output-words : (nodes results : ℕ) (bytes front rest : List ℕ) → IsSmall nodes results → bytes ≡ front ++ 32 ∷ rest → Lacks 32 front
    → (output : Output) → IsOutput nodes results output → bytes ≡ output_text output
    → (front ≡ operand_text output.hi) × (rest ≡ operand_text output.lo)
output-words nodes results bytes front rest small cut lacks output allowed same =
    cut-same 32 front rest (operand_text output.hi) (operand_text output.lo) lacks
    (Lacks-from 32 33 (operand_text output.hi) (omega arith) (IsFrom-operand nodes results output.hi small allowed.hi)) (sym cut ∙ same)

-- a text without a space is no instruction
pub instruction-no_space : (bytes : List ℕ) → Lacks 32 bytes → (instruction : Instruction) → bytes ≢ instruction_text instruction
instruction-no_space bytes lacks instruction same =
    Lacks-cut 32 (first_word instruction) (other_words instruction) (rw (same, instruction_text-words instruction) at lacks)

-- what stands before and behind the first space of an instruction
pub instruction-words : (nodes results : ℕ) (bytes front rest : List ℕ) → IsSmall nodes results → bytes ≡ front ++ 32 ∷ rest → Lacks 32 front
    → (instruction : Instruction) → AreAllowed nodes results instruction → bytes ≡ instruction_text instruction
    → (front ≡ first_word instruction) × (rest ≡ other_words instruction)
instruction-words nodes results bytes front rest small cut lacks instruction allowed same =
    cut-same 32 front rest (first_word instruction) (other_words instruction) lacks
    (Lacks-from 32 33 (first_word instruction) (omega arith) (IsFrom-first_word nodes results instruction small allowed))
    (sym cut ∙ same ∙ instruction_text-words instruction)

-- no operand is what stands before the space, and it is not the mark of a Not: the text is no instruction
pub instruction-first_bad : (nodes results : ℕ) (bytes front rest : List ℕ) → IsSmall nodes results → bytes ≡ front ++ 32 ∷ rest → Lacks 32 front
    → ((more : List ℕ) → bytes ≢ codes "! " ++ more) → ((operand : Operand) → IsAllowed nodes results operand → front ≢ operand_text operand)
    → (instruction : Instruction) → AreAllowed nodes results instruction → bytes ≢ instruction_text instruction
instruction-first_bad nodes results bytes front rest small cut lacks unmarked bad (Not a) allowed same = unmarked (operand_text a) same
instruction-first_bad nodes results bytes front rest small cut lacks unmarked bad (And a b) allowed same =
    bad a allowed.0 (instruction-words nodes results bytes front rest small cut lacks (And a b) allowed same).0
instruction-first_bad nodes results bytes front rest small cut lacks unmarked bad (Or a b) allowed same =
    bad a allowed.0 (instruction-words nodes results bytes front rest small cut lacks (Or a b) allowed same).0

-- no sign with an operand is what stands behind the space: the text is no instruction
pub instruction-second_bad : (nodes results : ℕ) (bytes front rest : List ℕ) → IsSmall nodes results → bytes ≡ front ++ 32 ∷ rest → Lacks 32 front
    → ((more : List ℕ) → bytes ≢ codes "! " ++ more)
    → ((operand : Operand) → IsAllowed nodes results operand → rest ≢ codes "& " ++ operand_text operand)
    → ((operand : Operand) → IsAllowed nodes results operand → rest ≢ codes "| " ++ operand_text operand)
    → (instruction : Instruction) → AreAllowed nodes results instruction → bytes ≢ instruction_text instruction
instruction-second_bad nodes results bytes front rest small cut lacks unmarked no_and no_or (Not a) allowed same = unmarked (operand_text a) same
instruction-second_bad nodes results bytes front rest small cut lacks unmarked no_and no_or (And a b) allowed same =
    no_and b allowed.1 (instruction-words nodes results bytes front rest small cut lacks (And a b) allowed same).1
instruction-second_bad nodes results bytes front rest small cut lacks unmarked no_and no_or (Or a b) allowed same =
    no_or b allowed.1 (instruction-words nodes results bytes front rest small cut lacks (Or a b) allowed same).1

-- the text of an Or, from its words
pub or_text : (bytes front rest word : List ℕ) (a b : Operand) → bytes ≡ front ++ 32 ∷ rest → front ≡ operand_text a → rest ≡ codes "| " ++ word
    → word ≡ operand_text b → bytes ≡ instruction_text (Or a b)
or_text bytes front rest word a b cut first sign second =
    rw (cut, first, sign, second) (sym (append_assoc (operand_text a) (codes " | ") (operand_text b)))
