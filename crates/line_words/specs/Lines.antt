-- The lines of a text.
use Rattle.std.specs.Prelude.{◌≡◌, ℕ, ◌+◌, ◌-◌, ◌<◌, ◌≤◌, false, List, [], ◌∷◌, ◌++◌, map, length, take, slice_index, ◌==◌, if◌then◌else◌, All, count_by}
use Rattle.std.specs.List.{slice_split}
use Rattle.line_words.specs.Bytes.{line_feed, carriage_return, is_line_feed}

-- the parts, without the last one if it is empty
abbrev pub less_empty_last : List (List ℕ) → List (List ℕ)
less_empty_last [] = []
less_empty_last ([] ∷ []) = []
less_empty_last (part ∷ parts) = part ∷ less_empty_last parts

-- the line, without its last byte if that is CR
abbrev pub without_return : List ℕ → List ℕ
without_return line =
    if slice_index line (length line - 1) == carriage_return then take (length line - 1) line else line

-- the lines of a text: its parts between LFs, an empty last part left out, each without a CR at its end
abbrev pub lines_of : List ℕ → List (List ℕ)
lines_of text = map without_return (less_empty_last (slice_split is_line_feed text))

-- no byte of the line is LF
abbrev pub HasNoFeed : List ℕ → Type 0
HasNoFeed line = All (λ byte. is_line_feed byte ≡ false) line

-- the same as a grammar: a text is empty, or a last line that has bytes and no LF, or a line, LF and a text
pub data IsText : List ℕ → List (List ℕ) → Type 0 where
  empty : IsText [] []
  last : (line : List ℕ) → 0 < length line → HasNoFeed line → IsText line (without_return line ∷ [])
  ended : (line rest : List ℕ) (lines : List (List ℕ)) → HasNoFeed line → IsText rest lines → IsText (line ++ line_feed ∷ rest) (without_return line ∷ lines)

-- the number of the line that holds the byte at a place, both counted from 1: the last line of the text up to that byte
abbrev pub line_holding : List ℕ → ℕ → ℕ
line_holding text place = length (lines_of (take place text))

-- the same by counting: one more than the LFs before that byte, so a line's CR and LF are its own
abbrev pub CountsFeeds : List ℕ → Type 0
CountsFeeds text =
    (place : ℕ) → 0 < place → place ≤ length text → line_holding text place ≡ count_by is_line_feed (take (place - 1) text) + 1
