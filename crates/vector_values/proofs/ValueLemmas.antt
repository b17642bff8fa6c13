-- Values, as far as a loop has read them.
use Rattle.std.proofs.Common.{◌≡◌, ℕ, zero, suc, ◌-◌, ◌<◌, List, [], ◌∷◌, ◌++◌, Option, option_map, refl, ap, sym, ◌∙◌, append_assoc, arith}
use Rattle.std.proofs.lemmas.List.{append-nil}
use Rattle.vector_values.specs.Values.{Letter, bit_of, bits_of}

-- what was read, and then what is left, where that can be read
abbrev pub with_front : List Letter → Option (List Letter) → Option (List Letter)
with_front front rest = option_map (λ items. front ++ items) rest

-- the bits of no number
pub bits_of-none : (number : ℕ) → bits_of 0 number ≡ []
unfolding bits_of
bits_of-none number = refl

-- the highest bit, and the others
pub bits_of-step : (left number : ℕ) → 0 < left → bits_of left number ≡ bit_of number (left - 1) ∷ bits_of (left - 1) number
unfolding bits_of
bits_of-step zero number some = absurd (omega arith)
bits_of-step (suc power) number some =
    let less : power ≡ suc power - 1 = omega arith in ap (λ n. bit_of number n ∷ bits_of n number) less

-- the letters so far, and the bits that are left: the highest is taken
pub bits-taken : (bits new all : List Letter) (left number : ℕ) → bits ++ bits_of left number ≡ all → 0 < left →
    new ≡ bits ++ bit_of number (left - 1) ∷ [] → new ++ bits_of (left - 1) number ≡ all
bits-taken bits new all left number so_far some taken =
    ap (λ front. front ++ bits_of (left - 1) number) taken
    ∙ append_assoc bits (bit_of number (left - 1) ∷ []) (bits_of (left - 1) number)
    ∙ ap (λ rest. bits ++ rest) (sym (bits_of-step left number some))
    ∙ so_far

-- or none is left
pub bits-done : (bits all : List Letter) (left number : ℕ) → bits ++ bits_of left number ≡ all → left ≡ 0 → bits ≡ all
bits-done bits all left number so_far none =
    sym (append-nil bits)
    ∙ ap (λ rest. bits ++ rest) (sym (ap (λ n. bits_of n number) none ∙ bits_of-none number))
    ∙ so_far
