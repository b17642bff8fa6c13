-- The number that bits write: of a number's last bits it is what is left of it, and zeros before them change nothing.
use Rattle.std.proofs.Common.{◌≡◌, ℕ, zero, suc, ◌+◌, ◌-◌, ◌*◌, ◌/◌, ◌%◌, ◌^◌, ◌<◌, ◌≤◌, Bool, true, false, ◌==◌, ◌&&◌, All, subst, codes, option_map, List, [], ◌∷◌, ◌++◌, length, take, drop, replicate, Option, Some, None, inl, inr, refl, sym, ap, ◌∙◌, arith, length-append, length-drop, if◌then◌else◌}
use Rattle.std.specs.List.{list_all}
use Rattle.std.specs.Option.{option_and_then}
use Rattle.std.proofs.lemmas.Bool.{and_parts, cases_eq, cases_lt, cases_Bool, eq-eqb, ne_eqb, le-leb, lt-leb}
use Rattle.std.proofs.lemmas.List.{length-replicate, take-append-drop}
use Rattle.std.proofs.lemmas.Nat.{mod-pow-add}
use Rattle.std.proofs.Math.Nat.{mod-eq_of_lt, pow-suc}
use Rattle.std.proofs.Math.Pow.{pow_mono}
use Rattle.std.proofs.lemmas.List.Elements.{All-append, All-cons, All-head, All-nil, All-tail, All-take}
use Rattle.line_words.specs.Decimals.{decimal_of}
use Rattle.line_words.specs.Words.{is_word}
use Rattle.ternary.specs.declared.tern.Tern.TheVariants.{Zero, One, Unk}
use Rattle.vector_values.specs.Values.{Letter, ValueData, after_prefix, bit_of, bits_of, decimal_or_letters, fitted, hex_bits, hex_digit, hex_or_other, is_zero, letters_of, number_value, plain_value}
use Rattle.vector_values.specs.Laws.{BitsWriteTheNumber, FittedWriteTheSame, IsBit, NumbersAreBits, UnfittedAreTooLarge, number_of, one_of}

-- a bit is 1 if the number is odd
one_of-odd : (number : ℕ) → one_of (if number % 2 == 1 then Some One else Some Zero) ≡ number % 2
one_of-odd number =
    elim (cases_eq (number % 2) 1) [
      | inl odd ↦ ap (λ test. one_of (if test then Some One else Some Zero)) (eq-eqb (number % 2) 1 odd) ∙ sym odd
      | inr even ↦
          let none : 0 ≡ number % 2 = omega arith in
          ap (λ test. one_of (if test then Some One else Some Zero)) (ne_eqb (number % 2) 1 even) ∙ none
    ]

length-bits_of : (count number : ℕ) → length (bits_of count number) ≡ count
unfolding bits_of
length-bits_of zero number = refl
length-bits_of (suc power) number = ap suc (length-bits_of power number)

-- the last so many bits write what is left of the number
number_of-bits_of : (count number : ℕ) → number_of (bits_of count number) ≡ number % 2 ^ count
unfolding bits_of
number_of-bits_of zero number = omega arith
number_of-bits_of (suc power) number =
    let more : 1 + power ≡ suc power = omega arith in
    ap (λ bit. bit * 2 ^ length (bits_of power number) + number_of (bits_of power number)) (one_of-odd (number / 2 ^ power))
    ∙ ap (λ long. (number / 2 ^ power % 2) * 2 ^ long + number_of (bits_of power number)) (length-bits_of power number)
    ∙ ap (λ rest. (number / 2 ^ power % 2) * 2 ^ power + rest) (number_of-bits_of power number)
    ∙ sym (mod-pow-add number 1 power)
    ∙ ap (λ count. number % 2 ^ count) more

pub bits_number : BitsWriteTheNumber
bits_number count number small = number_of-bits_of count number ∙ mod-eq_of_lt small

-- a bit that is 0 adds nothing
one_of-zero : (bit : Letter) → is_zero bit ≡ true → one_of bit ≡ 0
one_of-zero None is = refl
one_of-zero (Some Zero) is = refl
one_of-zero (Some One) is = absurd (let e : false ≡ true = is in cc)
one_of-zero (Some Unk) is = refl

-- bits behind zeros write what they write
number_of-zeros : (front bits : List Letter) → list_all is_zero front ≡ true → number_of (front ++ bits) ≡ number_of bits
number_of-zeros [] bits zeros = refl
number_of-zeros (bit ∷ front) bits zeros =
    let both = and_parts (is_zero bit) (list_all is_zero front) zeros in
    let none : 0 * 2 ^ length (front ++ bits) + number_of (front ++ bits) ≡ number_of (front ++ bits) = omega arith in
    ap (λ one. one * 2 ^ length (front ++ bits) + number_of (front ++ bits)) (one_of-zero bit both.0)
    ∙ none
    ∙ number_of-zeros front bits both.1

zeros-all : (count : ℕ) → list_all is_zero (replicate count (Some Zero)) ≡ true
zeros-all zero = refl
zeros-all (suc count) = zeros-all count

pub fitted_number : FittedWriteTheSame
fitted_number count bits letters made =
    elim (cases_lt count (length bits)) [
      | inr room ↦
          let padded : Some (replicate (count - length bits) (Some Zero) ++ bits) ≡ Some letters =
          sym (ap (λ test. if test then Some (replicate (count - length bits) (Some Zero) ++ bits) else cut) (le-leb (length bits) count room)) ∙ made in
          let same : letters ≡ replicate (count - length bits) (Some Zero) ++ bits = cc in (
            ap length same ∙ long room,
            ap number_of same ∙ number_of-zeros (replicate (count - length bits) (Some Zero)) bits (zeros-all (count - length bits)),
          )
      | inl past ↦
          let left : cut ≡ Some letters =
          sym (ap (λ test. if test then Some (replicate (count - length bits) (Some Zero) ++ bits) else cut) (lt-leb (length bits) count past)) ∙ made in
          elim (cases_Bool (list_all is_zero (take (length bits - count) bits))) [
            | inl zeros ↦
                let whole : Some (drop (length bits - count) bits) ≡ Some letters =
                sym (ap (λ test. if test then Some (drop (length bits - count) bits) else None) zeros) ∙ left in
                let same : letters ≡ drop (length bits - count) bits = cc in (
                  ap length same ∙ length-drop (length bits - count) bits ∙ rest past,
                  ap number_of same
                      ∙ sym (number_of-zeros (take (length bits - count) bits) (drop (length bits - count) bits) zeros)
                      ∙ ap number_of (take-append-drop (length bits - count) bits),
                )
            | inr others ↦
                absurd (let none : None ≡ Some letters = sym (ap (λ test. if test then Some (drop (length bits - count) bits) else None) others) ∙ left in cc)
          ]
    ]
  where
    cut : Option (List Letter)
    cut = if list_all is_zero (take (length bits - count) bits) then Some (drop (length bits - count) bits) else None

    long : length bits ≤ count → length (replicate (count - length bits) (Some Zero) ++ bits) ≡ count
    long room = omega (arith, length-append (replicate (count - length bits) (Some Zero)) bits, length-replicate (count - length bits) (Some Zero))

    rest : count < length bits → length bits - (length bits - count) ≡ count
    rest past = omega arith

-- bits write less than two to the power of how many they are
number_of-small : (bits : List Letter) → number_of bits < 2 ^ length bits
number_of-small [] = omega arith
number_of-small (None ∷ bits) = omega (arith, pow-suc 2 (length bits), number_of-small bits)
number_of-small (Some Zero ∷ bits) = omega (arith, pow-suc 2 (length bits), number_of-small bits)
number_of-small (Some One ∷ bits) = omega (arith, pow-suc 2 (length bits), number_of-small bits)
number_of-small (Some Unk ∷ bits) = omega (arith, pow-suc 2 (length bits), number_of-small bits)

-- bits behind others that aren't all 0 write no less than that
number_of-large : (front bits : List Letter) → All IsBit front → list_all is_zero front ≡ false → 2 ^ length bits ≤ number_of (front ++ bits)
number_of-large [] bits are others = absurd (let e : true ≡ false = others in cc)
number_of-large (bit ∷ front) bits are others =
    by bit (All-head IsBit bit front are) others (number_of-large front bits (All-tail IsBit bit front are))
  where
    by : (bit : Letter) → IsBit bit → (is_zero bit && list_all is_zero front) ≡ false →
        (list_all is_zero front ≡ false → 2 ^ length bits ≤ number_of (front ++ bits)) →
        2 ^ length bits ≤ one_of bit * 2 ^ length (front ++ bits) + number_of (front ++ bits)
    by None is others later = elim is [ inl e ↦ absurd (cc) | inr e ↦ absurd (cc) ]
    by (Some Zero) is others later = omega (arith, later others)
    by (Some Unk) is others later = elim is [ inl e ↦ absurd (cc) | inr e ↦ absurd (cc) ]
    by (Some One) is others later =
        let long : length bits ≤ length (front ++ bits) = omega (arith, length-append front bits) in
        omega (arith, pow_mono long)

fitted-large : (count : ℕ) (bits : List Letter) → 2 ^ count ≤ number_of bits → fitted count bits ≡ None
fitted-large count bits large = by (fitted count bits) refl
  where
    by : (made : Option (List Letter)) → fitted count bits ≡ made → made ≡ None
    by None is = refl
    by (Some letters) is =
        let same = fitted_number count bits letters is in
        let power : 2 ^ length letters ≡ 2 ^ count = ap (λ n. 2 ^ n) same.0 in
        absurd (omega (arith, number_of-small letters, power, same.1))

unfitted-from : (count : ℕ) (bits : List Letter) → All IsBit bits → fitted count bits ≡ None → 2 ^ count ≤ number_of bits
unfitted-from count bits are none =
    elim (cases_lt count (length bits)) [
      | inr room ↦ absurd (let e : Some (replicate (count - length bits) (Some Zero) ++ bits) ≡ None =
          sym (ap (λ test. if test then Some (replicate (count - length bits) (Some Zero) ++ bits) else cut) (le-leb (length bits) count room)) ∙ none in cc)
      | inl past ↦
          let left : cut ≡ None =
          sym (ap (λ test. if test then Some (replicate (count - length bits) (Some Zero) ++ bits) else cut) (lt-leb (length bits) count past)) ∙ none in
          elim (cases_Bool (list_all is_zero (take (length bits - count) bits))) [
            | inl zeros ↦ absurd (let e : Some (drop (length bits - count) bits) ≡ None =
                sym (ap (λ test. if test then Some (drop (length bits - count) bits) else None) zeros) ∙ left in cc)
            | inr others ↦
                let large = number_of-large (take (length bits - count) bits) (drop (length bits - count) bits) fronts others in
                let whole : number_of (take (length bits - count) bits ++ drop (length bits - count) bits) ≡ number_of bits =
                ap number_of (take-append-drop (length bits - count) bits) in
                let long : length (drop (length bits - count) bits) ≡ count = omega (arith, length-drop (length bits - count) bits) in
                let power : 2 ^ length (drop (length bits - count) bits) ≡ 2 ^ count = ap (λ n. 2 ^ n) long in
                omega (arith, large, whole, power)
          ]
    ]
  where
    cut : Option (List Letter)
    cut = if list_all is_zero (take (length bits - count) bits) then Some (drop (length bits - count) bits) else None

    fronts : All IsBit (take (length bits - count) bits)
    fronts = All-take IsBit (length bits - count) bits are

pub unfitted_large : UnfittedAreTooLarge
unfitted_large count bits are = (unfitted-from count bits are, fitted-large count bits)

-- the bits of a number are bits
bits-bits : (count number : ℕ) → All IsBit (bits_of count number)
unfolding bits_of
bits-bits zero number = All-nil IsBit
bits-bits (suc power) number = All-cons IsBit (bit_of number power) (bits_of power number) (by (number / 2 ^ power % 2 == 1)) (bits-bits power number)
  where
    by : (test : Bool) → IsBit (if test then Some One else Some Zero)
    by true = inr refl
    by false = inl refl

-- so are those of hexadecimal digits
hex-bits : (bytes : List ℕ) (bits : List Letter) → hex_bits bytes ≡ Some bits → All IsBit bits
hex-bits [] bits made = let none : [] ≡ bits = cc in subst (All IsBit) none (All-nil IsBit)
hex-bits (byte ∷ bytes) bits made = by (hex_digit byte) (hex_bits bytes) made (hex-bits bytes)
  where
    by : (digit : Option ℕ) (rest : Option (List Letter)) →
        option_and_then (λ digit. option_map (λ bits. bits_of 4 digit ++ bits) rest) digit ≡ Some bits →
        ((others : List Letter) → rest ≡ Some others → All IsBit others) → All IsBit bits
    by None rest made later = absurd (cc)
    by (Some digit) None made later = absurd (cc)
    by (Some digit) (Some others) made later =
        let same : bits_of 4 digit ++ others ≡ bits = cc in
        subst (All IsBit) same (All-append IsBit (bits_of 4 digit) others (bits-bits 4 digit) (later others refl))

letters-plain : (made : Option (List Letter)) (value : ValueData) → option_map plain_value made ≡ Some value → value.number ≡ true → ⊥
letters-plain None value is number = cc
letters-plain (Some letters) value is number =
    let same : plain_value letters ≡ value = cc in
    let e : false ≡ true = ap (λ (v : ValueData). v.number) same ∙ number in cc

pub numbers_bits : NumbersAreBits
numbers_bits dashes text value made number = by (after_prefix (codes "%h") text) made
  where
    hex : (digits : List ℕ) (test : Bool) (bits : Option (List Letter)) → hex_bits digits ≡ bits →
        (if test then option_map number_value bits else None) ≡ Some value → All IsBit value.letters
    hex digits false bits read is = absurd (cc)
    hex digits true None read is = absurd (cc)
    hex digits true (Some bits) read is =
        let same : number_value bits ≡ value = cc in
        subst (All IsBit) (ap (λ (v : ValueData). v.letters) same) (hex-bits digits bits read)

    decimal : (number : Option ℕ) → option_map (λ number. number_value (bits_of 64 number)) number ≡ Some value → All IsBit value.letters
    decimal None is = absurd (cc)
    decimal (Some n) is =
        let same : number_value (bits_of 64 n) ≡ value = cc in
        subst (All IsBit) (ap (λ (v : ValueData). v.letters) same) (bits-bits 64 n)

    letters : (test : Bool) → (if test then option_map plain_value (letters_of dashes text) else None) ≡ Some value → All IsBit value.letters
    letters false is = absurd (cc)
    letters true is = absurd (letters-plain (letters_of dashes text) value is number)

    other : (digits : Option (List ℕ)) → decimal_or_letters dashes text digits ≡ Some value → All IsBit value.letters
    other None is = letters (is_word text) is
    other (Some digits) is = decimal (decimal_of digits) is

    by : (digits : Option (List ℕ)) → hex_or_other dashes text digits ≡ Some value → All IsBit value.letters
    by None is = other (after_prefix (codes "%d") text) is
    by (Some digits) is = hex digits (is_word digits) (hex_bits digits) refl is
