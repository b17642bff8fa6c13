-- Numbers with a decimal point, in thousandths.
use Rattle.std.specs.Prelude.{◌≡◌, ℕ, ◌+◌, ◌-◌, ◌*◌, ◌<◌, Bool, true, not, ◌==◌, ◌&&◌, List, [], ◌∷◌, ◌++◌, length, min, All, slice_index_or, Option, Some, None, if◌then◌else◌}
use Rattle.std.specs.Char.{is_ascii_digit}
use Rattle.std.specs.List.{list_all, before_first, after_first}
use Rattle.line_words.specs.Decimals.{value_of}
use Rattle.line_words.specs.declared.points.TheConstants.{MOST_THOUSANDTHS}

-- the byte `.`, between a number's whole part and its decimals
abbrev pub point : ℕ
point = 46

-- the byte is a point
abbrev pub is_point : ℕ → Bool
is_point byte = byte == point

-- the decimal at a place, 0 if there is none
abbrev pub digit_at : List ℕ → ℕ → ℕ
digit_at decimals place = slice_index_or decimals place 48 - 48

-- a thousand times the number with these digits before and after its point; digits past the third decimal are dropped
abbrev pub thousandths_in : List ℕ → List ℕ → ℕ
thousandths_in whole decimals =
    value_of whole * 1000 + (digit_at decimals 0 * 100 + digit_at decimals 1 * 10 + digit_at decimals 2)

-- there are digits alone, and one at least
abbrev pub are_number : List ℕ → List ℕ → Bool
are_number whole decimals =
    not (length whole + length decimals == 0) && (list_all is_ascii_digit whole && list_all is_ascii_digit decimals)

-- the thousandths of a number with these digits before and after its point, up to the most that there are
abbrev pub thousandths_by : List ℕ → List ℕ → Option ℕ
thousandths_by whole decimals =
    if are_number whole decimals then Some (min (thousandths_in whole decimals) MOST_THOUSANDTHS) else None

-- the thousandths of the number that a word writes, cut at its first point
abbrev pub thousandths_of : List ℕ → Option ℕ
thousandths_of word = thousandths_by (before_first is_point word) (after_first is_point word)

-- each byte is an ASCII digit
abbrev pub AreDigits : List ℕ → Type 0
AreDigits digits = All (λ byte. is_ascii_digit byte ≡ true) digits

-- the same as a grammar: a word writes so many thousandths if it is digits, or digits, a point and digits, one digit at least
pub data WritesThousandths : List ℕ → ℕ → Type 0 where
  plain : (digits : List ℕ) → 0 < length digits → AreDigits digits → WritesThousandths digits (thousandths_in digits [])
  pointed : (digits decimals : List ℕ) → 0 < length digits + length decimals → AreDigits digits → AreDigits decimals →
      WritesThousandths (digits ++ point ∷ decimals) (thousandths_in digits decimals)

-- the word writes so many thousandths, or more and this is the most
pub record WritesUpTo (word : List ℕ) (n : ℕ) : Type 0 where
  pub whole : ℕ
  pub writes : WritesThousandths word whole
  pub least : n ≡ min whole MOST_THOUSANDTHS
