-- The values that are given to vectors: letters, or a number in hexadecimal or decimal digits.
use Rattle.std.specs.Prelude.{ℕ, zero, suc, ◌-◌, ◌/◌, ◌%◌, ◌^◌, Bool, true, false, ◌==◌, ◌&&◌, List, [], ◌∷◌, ◌++◌, length, take, drop, replicate, codes, bytes_eq, nat_le, Option, Some, None, option_map, if◌then◌else◌}
use Rattle.std.specs.List.{list_all}
use Rattle.std.specs.Option.{option_and_then}
use Rattle.ternary.specs.declared.tern.Tern.{Tern}
use Rattle.ternary.specs.declared.tern.Tern.TheVariants.{Zero, One, Unk}
use Rattle.ternary.specs.Tern.{of_letter}
use Rattle.line_words.specs.Decimals.{decimal_of}
use Rattle.line_words.specs.Words.{is_word}

-- a letter: a state, or none, which stands for any state
abbrev pub Letter : Type 0
Letter = Option Tern

-- the byte `-`
abbrev pub dash : ℕ
dash = 45

-- the letter that a byte stands for: that of a state, or `-` if it may stand
abbrev pub letter_of : Bool → ℕ → Option Letter
letter_of dashes byte = if dashes && byte == dash then Some None else option_map Some (of_letter byte)

-- the letters of bytes, or none if one stands for none
abbrev pub letters_of : Bool → List ℕ → Option (List Letter)
letters_of dashes [] = Some []
letters_of dashes (byte ∷ bytes) =
    option_and_then (λ letter. option_map (λ letters. letter ∷ letters) (letters_of dashes bytes)) (letter_of dashes byte)

-- the letter of a number's bit that stands for 2 to this power
abbrev pub bit_of : ℕ → ℕ → Letter
bit_of number power = if number / 2 ^ power % 2 == 1 then Some One else Some Zero

-- the letters of a number's last so many bits, the highest first
unfoldable pub bits_of : ℕ → ℕ → List Letter
bits_of zero number = []
bits_of (suc power) number = bit_of number power ∷ bits_of power number

-- the number of a hexadecimal digit, in any case
abbrev pub hex_digit : ℕ → Option ℕ
hex_digit byte =
    if nat_le 48 byte && nat_le byte 57 then Some (byte - 48)
    else (if nat_le 97 byte && nat_le byte 102 then Some (byte - 87)
    else (if nat_le 65 byte && nat_le byte 70 then Some (byte - 55) else None))

-- the bits of hexadecimal digits, four for each, or none if a byte is no such digit
abbrev pub hex_bits : List ℕ → Option (List Letter)
hex_bits [] = Some []
hex_bits (byte ∷ bytes) =
    option_and_then (λ digit. option_map (λ bits. bits_of 4 digit ++ bits) (hex_bits bytes)) (hex_digit byte)

-- a value: its letters, and whether they are the bits of a number, the highest first
pub record ValueData : Type 0 where
  pub letters : List Letter
  pub number : Bool

-- letters of nodes, or bits of a number
abbrev pub plain_value : List Letter → ValueData
plain_value letters = record { letters = letters; number = false }

abbrev pub number_value : List Letter → ValueData
number_value bits = record { letters = bits; number = true }

-- what stands behind these bytes, where the text begins with them
abbrev pub after_prefix : List ℕ → List ℕ → Option (List ℕ)
after_prefix prefix text = if bytes_eq (take (length prefix) text) prefix then Some (drop (length prefix) text) else None

-- the value of letters, one at least
abbrev pub of_letters : Bool → List ℕ → Option ValueData
of_letters dashes text = if is_word text then option_map plain_value (letters_of dashes text) else None

-- the value of hexadecimal digits, one at least
abbrev pub of_hex : List ℕ → Option ValueData
of_hex digits = if is_word digits then option_map number_value (hex_bits digits) else None

-- the value of a decimal, which is below 2 ^ 64
abbrev pub of_decimal : List ℕ → Option ValueData
of_decimal digits = option_map (λ number. number_value (bits_of 64 number)) (decimal_of digits)

-- the value of what stands behind `%d`, or else of letters
abbrev pub decimal_or_letters : Bool → List ℕ → Option (List ℕ) → Option ValueData
decimal_or_letters dashes text (Some digits) = of_decimal digits
decimal_or_letters dashes text None = of_letters dashes text

-- the value of what stands behind `%h`, or else behind `%d`, or else of letters
abbrev pub hex_or_other : Bool → List ℕ → Option (List ℕ) → Option ValueData
hex_or_other dashes text (Some digits) = of_hex digits
hex_or_other dashes text None = decimal_or_letters dashes text (after_prefix (codes "%d") text)

-- the value that a text writes, if any: `%h` and hexadecimal digits, `%d` and a decimal, or letters, with `-` if it may stand
abbrev pub value_of : Bool → List ℕ → Option ValueData
value_of dashes text = hex_or_other dashes text (after_prefix (codes "%h") text)

-- so many times the letter, if there is one alone
abbrev pub one_for_all : ℕ → List Letter → Option (List Letter)
one_for_all count [] = None
one_for_all count (letter ∷ []) = Some (replicate count letter)
one_for_all count (letter ∷ other ∷ letters) = None

-- a letter for each of so many nodes: the letters as they are, or the one letter for all
abbrev pub spread : ℕ → List Letter → Option (List Letter)
spread count letters = if length letters == count then Some letters else one_for_all count letters

-- the bit is 0
abbrev pub is_zero : Letter → Bool
is_zero None = false
is_zero (Some Zero) = true
is_zero (Some One) = false
is_zero (Some Unk) = false

-- a bit for each of so many nodes, the first the highest: zeros before the bits, or the bits without the zeros before them, where the
-- number isn't too large
abbrev pub fitted : ℕ → List Letter → Option (List Letter)
fitted count bits =
    if nat_le (length bits) count then Some (replicate (count - length bits) (Some Zero) ++ bits)
    else (if list_all is_zero (take (length bits - count) bits) then Some (drop (length bits - count) bits) else None)

-- the letter for each of so many nodes, or none if the value doesn't fit them
abbrev pub letters_for : ℕ → ValueData → Option (List Letter)
letters_for count value = if value.number then fitted count value.letters else spread count value.letters

-- the state of a value that is the letter of one alone
abbrev pub state_in : List Letter → Option Tern
state_in [] = None
state_in (letter ∷ []) = letter
state_in (letter ∷ other ∷ letters) = None

-- the state that a value gives to a node that stands for itself, if it is one letter of a state
abbrev pub state_of : ValueData → Option Tern
state_of value = if value.number then None else state_in value.letters
