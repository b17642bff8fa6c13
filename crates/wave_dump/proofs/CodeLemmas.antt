-- A code stands for its number.
use Rattle.std.proofs.Common.{◌≡◌, ℕ, zero, suc, ◌+◌, ◌/◌, ◌%◌, ◌<◌, ◌≤◌, List, [], ◌∷◌, ◌++◌, Result, Ok, Err, OnOk, append_assoc, sym, ◌∙◌, ap, arith, inl, inr}
use Rattle.std.specs.Prelude.{Bool, true, false, if◌then◌else◌, nat_lt}
use Rattle.std.proofs.lemmas.Bool.{cases_lt}
use Rattle.std.proofs.lemmas.Bool.Decides.{nat_tests}
use Rattle.wave_dump.specs.Codes.{code_in, code_of, number_of}
use Rattle.wave_dump.specs.Laws.{AreVisible, CodesAreUnique, CodesAreVisible}

number_in : (most number : ℕ) → number < most → number_of (code_in most number) ≡ number
number_in zero number below = absurd (omega arith)
number_in (suc most) number below = elim (cases_lt number 94) [
  | inl small ↦ grind (arith, nat_tests, small)
  | inr large ↦
      let rest = number_in most (number / 94) (omega arith) in
      grind (arith, nat_tests, large, rest)
]

pub unique : CodesAreUnique
unique = record {
  number = λ number. number_in (suc number) number (omega arith);
  once = λ one two same.
      sym (number_in (suc one) one (omega arith)) ∙ (ap number_of same ∙ number_in (suc two) two (omega arith));
}

rest_visible : (last : Bool) (code : List ℕ) → AreVisible code → AreVisible (if last then [] else code)
rest_visible true code visible = tt
rest_visible false code visible = visible

visible_in : (most number : ℕ) → AreVisible (code_in most number)
visible_in zero number = tt
visible_in (suc most) number = (omega arith, omega arith, rest_visible (nat_lt number 94) (code_in most (number / 94)) (visible_in most (number / 94)))

pub visible : CodesAreVisible
visible number = ((λ none. absurd cc), visible_in (suc number) number)

-- with more digits at most, a code is the same
code_in-more : (one two number : ℕ) → number < one → number < two → code_in one number ≡ code_in two number
code_in-more zero two number below also = absurd (omega arith)
code_in-more (suc one) zero number below also = absurd (omega arith)
code_in-more (suc one) (suc two) number below also = elim (cases_lt number 94) [
  | inl small ↦ grind (arith, nat_tests, small)
  | inr large ↦
      let rest = code_in-more one two (number / 94) (omega arith) (omega arith) in
      grind (arith, nat_tests, large, rest)
]

-- the code of a number with more digits than one: its last digit, and then the code of the others
pub code_of-more : (number : ℕ) → 94 ≤ number → code_of number ≡ (33 + number % 94) ∷ code_of (number / 94)
code_of-more number large =
    let rest = code_in-more number (suc (number / 94)) (number / 94) (omega arith) (omega arith) in
    grind (arith, nat_tests, large, rest)

-- and that of a digit
pub code_of-digit : (number : ℕ) → number < 94 → code_of number ≡ (33 + number) ∷ []
code_of-digit number small = grind (arith, nat_tests, small)

-- a digit that was put goes before the code of the others
pub digit_more : (all old new : List ℕ) (rest : ℕ) → 94 ≤ rest → all ≡ old ++ code_of rest → new ≡ old ++ (33 + rest % 94) ∷ [] →
    all ≡ new ++ code_of (rest / 94)
digit_more all old new rest large was is =
    was ∙ (ap (λ code. old ++ code) (code_of-more rest large)
    ∙ (sym (append_assoc old ((33 + rest % 94) ∷ []) (code_of (rest / 94))) ∙ ap (λ line. line ++ code_of (rest / 94)) (sym is)))

-- and the last one ends it
pub digit_last : (all old new : List ℕ) (rest : ℕ) → rest < 94 → all ≡ old ++ code_of rest → new ≡ old ++ (33 + rest) ∷ [] → new ≡ all
digit_last all old new rest small was is = is ∙ (ap (λ code. old ++ code) (sym (code_of-digit rest small)) ∙ sym was)
