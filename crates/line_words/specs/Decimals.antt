-- Numbers in decimal.
use Rattle.std.specs.Prelude.{ℕ, ◌+◌, ◌-◌, ◌*◌, ◌^◌, List, [], ◌∷◌, length, nat_lt, ◌&&◌, if◌then◌else◌, Option, Some, None}
use Rattle.std.specs.Char.{is_ascii_digit}
use Rattle.std.specs.List.{list_all}
use Rattle.line_words.specs.Words.{is_word}

-- the number that digits write: each digit times ten to the power of the number of digits after it
abbrev pub value_of : List ℕ → ℕ
value_of [] = 0
value_of (digit ∷ digits) = (digit - 48) * 10 ^ length digits + value_of digits

-- the number that a word writes, if it has only digits, one at least, and the number is below 2 ^ 64
abbrev pub decimal_of : List ℕ → Option ℕ
decimal_of word =
    if is_word word && list_all is_ascii_digit word && nat_lt (value_of word) (2 ^ 64) then Some (value_of word) else None
