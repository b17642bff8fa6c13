-- Digits and the number that they write.
use Rattle.std.proofs.Common.{◌≡◌, ℕ, ◌-◌, ◌<◌, ◌≤◌, ◌^◌, true, false, List, [], ◌∷◌, length, Result, Option, Some, None, Ok, Err, decimal, IsUtf8, inl, inr, refl, sym, ◌∙◌, ap, subst, arith, rules}
use Rattle.std.specs.List.{list_all}
use Rattle.std.specs.Char.{is_ascii_digit}
use Rattle.std.proofs.lemmas.Str.Parse.{IsNumeralModel, numerals_by_weight, parse_digits}
use Rattle.std.proofs.lemmas.Str.{IsUtf8-from_ascii}
use Rattle.std.proofs.lemmas.Fmt.{IsAscii-from_digits, digits_decimal, digits_value-decimal, decimal_is_IsNumeral}
use Rattle.std.specs.Result.{result_ok}
use Rattle.std.specs.Str.Parse.{ParsesUnsigned}
use Rattle.std.proofs.lemmas.Bool.{cond-true, cond-false, and_from, and_left, and_right, lt-ltb, le-ltb, cases_lt}
use Rattle.line_words.specs.Words.{is_word}
use Rattle.line_words.specs.Decimals.{value_of, decimal_of}

-- the digits of `decimal_of` and their value are those that `parse` reads
pub digits_are : IsNumeralModel (λ word. list_all is_ascii_digit word ≡ true) value_of
digits_are = numerals_by_weight _ (search rules) value_of (search rules)

-- digits are text
pub IsUtf8-digits : (word : List ℕ) → list_all is_ascii_digit word ≡ true → IsUtf8 word
IsUtf8-digits word digits = IsUtf8-from_ascii word (IsAscii-from_digits word (digits_are.to word digits))

-- a word with another byte than digits writes no number
pub decimal_of-other : (word : List ℕ) → list_all is_ascii_digit word ≡ false → decimal_of word ≡ None
decimal_of-other word other =
    cond-false _ _ _ (and_left _ _ (and_right (is_word word) _ other))

-- digits write their value, if it is below 2 ^ 64
pub decimal_of-digits : (word : List ℕ) → list_all is_ascii_digit word ≡ true → 0 < length word → value_of word < 2 ^ 64
    → decimal_of word ≡ Some (value_of word)
decimal_of-digits [] digits some small = absurd (omega arith)
decimal_of-digits (digit ∷ word) digits some small =
    cond-true _ _ _ (and_from _ _ (and_from true _ refl digits) (lt-ltb (value_of (digit ∷ word)) (2 ^ 64) small))

-- and else write none
pub decimal_of-large : (word : List ℕ) → list_all is_ascii_digit word ≡ true → ¬ ((0 < length word) × (value_of word < 2 ^ 64))
    → decimal_of word ≡ None
decimal_of-large [] digits large = refl
decimal_of-large (digit ∷ word) digits large =
    elim (cases_lt (value_of (digit ∷ word)) (2 ^ 64)) [
      | inl small ↦ absurd (large (omega arith, small))
      | inr past ↦ cond-false _ _ _ (and_right _ _ (le-ltb (value_of (digit ∷ word)) (2 ^ 64) past))
    ]

-- what `parse` reads in digits
pub result_ok-parse : {E : Type 0} (word : List ℕ) (read : Result ℕ E) → list_all is_ascii_digit word ≡ true
    → ParsesUnsigned 64 10 word read → result_ok read ≡ decimal_of word
result_ok-parse {E} word (Ok value) digits parsed =
    let reads = parse_digits digits_are {E = E} 64 word (Ok value) parsed digits in
    ap Some reads.1 ∙ sym (decimal_of-digits word digits reads.0.0 reads.0.1)
result_ok-parse {E} word (Err error) digits parsed =
    sym (decimal_of-large word digits (parse_digits digits_are {E = E} 64 word (Err error) parsed digits))

-- what a number is printed as is read as that number
decimal_of-decimal : (n : ℕ) → n < 2 ^ 64 → decimal_of (decimal n) ≡ Some n
decimal_of-decimal n small =
    let value : value_of (decimal n) ≡ n = digits_value-decimal digits_are n small in
    decimal_of-digits (decimal n) (digits_decimal digits_are n small) (decimal_is_IsNumeral n small).0.0 (subst (λ m. m < 2 ^ 64) (sym value) small)
    ∙ ap Some value

pub read-decimal : {word : List ℕ} {read : Option ℕ} → read ≡ decimal_of word
    → (n : ℕ) → n ≤ 2 ^ 64 - 1 → word ≡ decimal n → read ≡ Some n
read-decimal reads n small printed = reads ∙ ap decimal_of printed ∙ decimal_of-decimal n (omega arith)
