-- The header: a comment on line 1, which may name a format, profile 2 and the thresholds of sizes.
use Rattle.std.specs.Prelude.{ℕ, Bool, true, ◌||◌, ◌&&◌, ◌==◌, List, [], ◌∷◌, length, codes, bytes_eq, nat_le, nat_lt, Option, Some, None, if◌then◌else◌}
use Rattle.std.specs.List.{after_first, list_any}
use Rattle.std.specs.Option.{option_map, option_map_or, option_and_then}
use Rattle.line_words.specs.Bytes.{bar}
use Rattle.line_words.specs.Points.{thousandths_of}
use Rattle.line_words.specs.Words.{words_of}
use Rattle.netlist.specs.Names.{spells}
use Rattle.sim_read.specs.Items.{after_prefix, items_of}
use Rattle.sim_read.specs.declared.header.TheConstants.{MOST_THRESHOLDS}

-- the words of a comment: those after its first `|`, which may stand directly before a word
abbrev pub comment_words : List ℕ → List (List ℕ)
comment_words line = words_of (after_first (λ byte. byte == bar) line)

-- the format that a header names: the word after the first word `format:` that has one after it
abbrev pub format_of : List (List ℕ) → Option (List ℕ)
format_of [] = None
format_of (word ∷ []) = None
format_of (word ∷ next ∷ words) = if bytes_eq word (codes "format:") then Some next else format_of (next ∷ words)

-- the format is MIT or SU, in any ASCII case
abbrev pub is_known_format : List ℕ → Bool
is_known_format word = spells word (codes "mit") || spells word (codes "su")

-- the header names no format, or a known one
abbrev pub is_header : List ℕ → Bool
is_header line = option_map_or is_known_format (format_of (comment_words line)) true

-- one of the words is `profile:2`
abbrev pub is_second : List (List ℕ) → Bool
is_second words = list_any (λ word. bytes_eq word (codes "profile:2")) words

-- this, if it is there, else the other
abbrev pub or_later : Option (List ℕ) → Option (List ℕ) → Option (List ℕ)
or_later (Some found) later = Some found
or_later None later = later

-- what the first word that begins with `caps:` says after that
abbrev pub caps_of : List (List ℕ) → Option (List ℕ)
caps_of [] = None
caps_of (word ∷ words) = or_later (after_prefix (codes "caps:") word) (caps_of words)

-- the numbers that items write, in thousandths, where each writes one
abbrev pub numbers_of : List (List ℕ) → Option (List ℕ)
numbers_of [] = Some []
numbers_of (item ∷ items) =
    option_and_then (λ number. option_map (λ numbers. number ∷ numbers) (numbers_of items)) (thousandths_of item)

-- each number is above the one before
abbrev pub is_rising : List ℕ → Bool
is_rising [] = true
is_rising (first ∷ []) = true
is_rising (first ∷ second ∷ numbers) = nat_lt first second && is_rising (second ∷ numbers)

-- the numbers rise, and aren't too many for the sizes that there are
abbrev pub are_thresholds : List ℕ → Bool
are_thresholds numbers = nat_le (length numbers) MOST_THRESHOLDS && is_rising numbers

-- the thresholds that items write, where they write some: numbers are compared after digits past the third decimal are dropped
abbrev pub thresholds_by : List (List ℕ) → Option (List ℕ)
thresholds_by items = option_and_then (λ numbers. if are_thresholds numbers then Some numbers else None) (numbers_of items)

-- the thresholds of a header in profile 2: none if no word names any, else those of its items between commas
abbrev pub thresholds_of : List (List ℕ) → Option (List ℕ)
thresholds_of words = option_map_or (λ text. thresholds_by (items_of text)) (caps_of words) (Some [])
