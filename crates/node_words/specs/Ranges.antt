-- Ranges in words: `{A:B}`, and the words that have each number from A to B in its place.
use Rattle.std.specs.Prelude.{ℕ, Bool, ◌≤◌, ◌+◌, ◌-◌, ◌==◌, not, List, [], ◌∷◌, ◌++◌, map, drop, nat_le, decimal, Option, Some, None, option_map, if◌then◌else◌}
use Rattle.std.specs.Char.{is_ascii_digit}
use Rattle.std.specs.List.{before_first, position_or_len, range_with_len}
use Rattle.std.specs.Option.{option_and_then}
use Rattle.line_words.specs.Decimals.{decimal_of}
use Rattle.node_words.specs.declared.TheConstants.{MOST_NUMBER}

-- the bytes `{`, `:` and `}`
abbrev pub opening : ℕ
opening = 123

abbrev pub between : ℕ
between = 58

abbrev pub closing : ℕ
closing = 125

-- the byte is no digit
abbrev pub is_no_digit : ℕ → Bool
is_no_digit byte = not (is_ascii_digit byte)

-- the digits with which a text begins, and what stands behind them
abbrev pub digits_of : List ℕ → List ℕ
digits_of text = before_first is_no_digit text

abbrev pub past_digits : List ℕ → List ℕ
past_digits text = drop (position_or_len is_no_digit text) text

-- the number, if a range may have it
abbrev pub within_range : ℕ → Option ℕ
within_range number = if nat_le number MOST_NUMBER then Some number else None

-- what stands behind the byte, where the text begins with it
abbrev pub behind : ℕ → List ℕ → Option (List ℕ)
behind own [] = None
behind own (byte ∷ text) = if byte == own then Some text else None

-- the number with which a text begins, and what stands behind the byte that has to stand behind the number
abbrev pub number_before : ℕ → List ℕ → Option (ℕ × List ℕ)
number_before stop text =
    option_and_then (λ number. option_map (λ after. (number, after)) (behind stop (past_digits text)))
    (option_and_then within_range (decimal_of (digits_of text)))

-- a range in a word: what stands before it, its two numbers, and what stands after it
pub record RangeData : Type 0 where
  pub before : List ℕ
  pub first : ℕ
  pub last : ℕ
  pub after : List ℕ

-- both numbers are small enough for a range
pub record IsSmall (first last : ℕ) : Type 0 where
  pub first_small : first ≤ MOST_NUMBER
  pub last_small : last ≤ MOST_NUMBER

-- the range with which a text begins: `{`, a number, `:`, a number and `}`
abbrev pub range_at : List ℕ → Option RangeData
range_at text =
    option_and_then (λ inside. option_and_then (λ one. option_map
    (λ other. record { before = []; first = one.0; last = other.0; after = other.1 })
    (number_before closing one.1)) (number_before between inside)) (behind opening text)

-- the range with more bytes before it
abbrev pub with_before : List ℕ → RangeData → RangeData
with_before bytes range = record { before = bytes ++ range.before; first = range.first; last = range.last; after = range.after }

-- the range that begins here, or else the one that comes later, with this byte before it
abbrev pub here_or_later : ℕ → Option RangeData → Option RangeData → Option RangeData
here_or_later byte (Some range) later = Some range
here_or_later byte None later = option_map (with_before (byte ∷ [])) later

-- the range of a word: the first that begins in it
abbrev pub first_range : List ℕ → Option RangeData
first_range [] = None
first_range (byte ∷ word) = here_or_later byte (range_at (byte ∷ word)) (first_range word)

-- how many numbers there are from one to another, both counted
abbrev pub count_between : ℕ → ℕ → ℕ
count_between first last = if nat_le first last then last - first + 1 else first - last + 1

-- the number at a place of those from one to another, upwards or downwards by one
abbrev pub number_at : ℕ → ℕ → ℕ → ℕ
number_at first last place = if nat_le first last then first + place else first - place

-- the word with the number at this place of the range in the range's place, without leading zeros
abbrev pub word_at : RangeData → ℕ → List ℕ
word_at range place = range.before ++ decimal (number_at range.first range.last place) ++ range.after

-- the words that a word with a range stands for
abbrev pub words_in : RangeData → List (List ℕ)
words_in range = map (word_at range) (range_with_len 0 (count_between range.first range.last))
