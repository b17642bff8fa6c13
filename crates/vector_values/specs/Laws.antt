-- Laws of numbers: their bits write them, and bits that were fitted to nodes write the same number.
use Rattle.std.specs.Prelude.{◌≡◌, ◌⊎◌, ◌↔◌, ℕ, ◌+◌, ◌*◌, ◌^◌, ◌<◌, ◌≤◌, Bool, true, List, [], ◌∷◌, length, All, Some, None}
use Rattle.ternary.specs.declared.tern.Tern.TheVariants.{Zero, One, Unk}
use Rattle.vector_values.specs.Values.{Letter, ValueData, bits_of, fitted, value_of}

-- 1 for the bit 1, 0 for others
abbrev pub one_of : Letter → ℕ
one_of None = 0
one_of (Some Zero) = 0
one_of (Some One) = 1
one_of (Some Unk) = 0

-- the number that bits write, the highest first: each bit times two to the power of the number of bits after it
abbrev pub number_of : List Letter → ℕ
number_of [] = 0
number_of (bit ∷ bits) = one_of bit * 2 ^ length bits + number_of bits

-- the last so many bits of a number that has no more write it
abbrev pub BitsWriteTheNumber : Type 0
BitsWriteTheNumber = (count number : ℕ) → number < 2 ^ count → number_of (bits_of count number) ≡ number

-- bits that are fitted to so many nodes are one for each, and write the same number
abbrev pub FittedWriteTheSame : Type 0
FittedWriteTheSame =
    (count : ℕ) (bits letters : List Letter) → fitted count bits ≡ Some letters → (length letters ≡ count) × (number_of letters ≡ number_of bits)

-- the letter is a bit
abbrev pub IsBit : Letter → Type 0
IsBit letter = (letter ≡ Some Zero) ⊎ (letter ≡ Some One)

-- bits don't fit so many nodes exactly if their number has more bits
abbrev pub UnfittedAreTooLarge : Type 0
UnfittedAreTooLarge = (count : ℕ) (bits : List Letter) → All IsBit bits → (fitted count bits ≡ None) ↔ (2 ^ count ≤ number_of bits)

-- the letters of a number that is written are bits
abbrev pub NumbersAreBits : Type 0
NumbersAreBits =
    (dashes : Bool) (text : List ℕ) (value : ValueData) → value_of dashes text ≡ Some value → value.number ≡ true → All IsBit value.letters
