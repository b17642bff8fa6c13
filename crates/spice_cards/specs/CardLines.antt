-- What the lines of a deck are to its cards: the lines that begin a card, that go on with one, and that are passed.
-- After the decks of Nagel and Pederson, "SPICE (Simulation Program with Integrated Circuit Emphasis)", 1973, in this project's profile.
use Rattle.std.specs.Prelude.{ℕ, Bool, true, false, ◌==◌, ◌||◌, not, List, [], ◌∷◌, ◌++◌, drop, codes, bytes_eq, find, nat_lt, length, Option, Some, None, if◌then◌else◌}
use Rattle.std.specs.List.{after_first, before_first, list_all}
use Rattle.std.specs.Option.{option_map_or}
use Rattle.line_words.specs.declared.line_check.TheConstants.{LONGEST_LINE}
use Rattle.line_words.specs.Bytes.{is_blank, is_line_byte}
use Rattle.line_words.specs.Words.{words_of}
use Rattle.spice_cards.specs.declared.sorts.LineSort.{LineSort}
use Rattle.spice_cards.specs.declared.sorts.LineSort.TheVariants.{Passed, More, Begins}
use Rattle.spice_cards.specs.declared.fault.DeckWhat.{DeckWhat}
use Rattle.spice_cards.specs.declared.fault.DeckWhat.TheVariants.{LineTooLong, BadByte}

-- the byte `*`, with which a comment begins
abbrev pub star : ℕ
star = 42

-- the byte `+`, with which a line goes on with the last card
abbrev pub plus : ℕ
plus = 43

-- the byte `$` or `;`: a word that begins so ends its line
abbrev pub is_ender : ℕ → Bool
is_ender byte = byte == 36 || byte == 59

-- the first byte of a line that isn't a blank
abbrev pub first_solid : List ℕ → Option ℕ
first_solid line = find (λ byte. not (is_blank byte)) line

-- the first byte that isn't blank is `*`
abbrev pub is_comment : List ℕ → Bool
is_comment line = option_map_or (λ byte. byte == star) (first_solid line) false

-- what a line is, by its first byte that isn't a blank
abbrev pub sort_by : Option ℕ → LineSort
sort_by None = Passed
sort_by (Some byte) = if byte == star || is_ender byte then Passed else (if byte == plus then More else Begins)

-- what a line is to the cards
unfoldable pub line_sort : List ℕ → LineSort
line_sort line = sort_by (first_solid line)

-- the fault of a line as such: too many bytes, else none in a comment, else a byte that may not stand in a line
abbrev pub line_fault : List ℕ → Option DeckWhat
line_fault line =
    if nat_lt LONGEST_LINE (length line) then Some LineTooLong
    else (if is_comment line || list_all is_line_byte line then None else Some BadByte)

-- the word begins with `$` or `;`, and ends its line
abbrev pub ends_line : List ℕ → Bool
ends_line [] = false
ends_line (byte ∷ word) = is_ender byte

-- the words of a part of a line that count: those before the first that ends the line
abbrev pub kept_words : List ℕ → List (List ℕ)
kept_words bytes = before_first ends_line (words_of bytes)

-- the bytes after a line's first one that isn't a blank
abbrev pub after_sign : List ℕ → List ℕ
after_sign line = after_first (λ byte. not (is_blank byte)) line

-- the words that the lines after a card go on with, up to the next card; what these lines are passed for counts for nothing here
abbrev pub continued_by : LineSort → List ℕ → List (List ℕ) → List (List ℕ)
continued_by Passed line later = later
continued_by More line later = kept_words (after_sign line) ++ later
continued_by Begins line later = []

abbrev pub continued : List (ℕ × List ℕ) → List (List ℕ)
continued [] = []
continued (line ∷ lines) = continued_by (line_sort line.1) line.1 (continued lines)

-- the words of the card that a line begins, with those of the lines that go on with it
abbrev pub card_words : List ℕ → List (ℕ × List ℕ) → List (List ℕ)
card_words line later = kept_words line ++ continued later

-- the first of some words, if there is one
abbrev pub head_of : List (List ℕ) → List ℕ
head_of [] = []
head_of (word ∷ words) = word

-- the first word of a line
abbrev pub first_word : List ℕ → List ℕ
first_word line = head_of (words_of line)

-- the line begins the card that this word names
abbrev pub begins_by : LineSort → List ℕ → List ℕ → Bool
begins_by Passed line word = false
begins_by More line word = false
begins_by Begins line word = bytes_eq (first_word line) word

abbrev pub begins : List ℕ → List ℕ → Bool
begins word line = begins_by (line_sort line) line word

-- the line ends the deck
abbrev pub is_end : List ℕ → Bool
is_end line = begins (codes ".end") line

-- a subcircuit that begins before these lines is ended: an `.ends` comes before `.end` and the end of the text
abbrev pub is_ended : List (ℕ × List ℕ) → Bool
is_ended [] = false
is_ended (line ∷ lines) =
    if begins (codes ".ends") line.1 then true else (if is_end line.1 then false else is_ended lines)
