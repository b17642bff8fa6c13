-- The words of a line.
use Rattle.std.specs.Prelude.{◌≡◌, ℕ, ◌<◌, Bool, true, false, List, [], ◌∷◌, ◌++◌, length, filter, All}
use Rattle.std.specs.List.{slice_split}
use Rattle.line_words.specs.Bytes.{is_blank}

-- the part has a byte
abbrev pub is_word : List ℕ → Bool
is_word [] = false
is_word (byte ∷ part) = true

-- the words of a line: its parts between blanks, without the empty ones
abbrev pub words_of : List ℕ → List (List ℕ)
words_of line = filter is_word (slice_split is_blank line)

-- bytes in a row, one at least, none of them a blank
pub record IsWord (word : List ℕ) : Type 0 where
  pub has_byte : 0 < length word
  pub no_blank : All (λ byte. is_blank byte ≡ false) word

-- the same as a grammar: a line is empty, or a blank and a line, or a word, or a word, a blank and a line
pub data IsLine : List ℕ → List (List ℕ) → Type 0 where
  empty : IsLine [] []
  blank : (byte : ℕ) (rest : List ℕ) (words : List (List ℕ)) → is_blank byte ≡ true → IsLine rest words → IsLine (byte ∷ rest) words
  last : (word : List ℕ) → IsWord word → IsLine word (word ∷ [])
  ended : (word : List ℕ) (byte : ℕ) (rest : List ℕ) (words : List (List ℕ)) → IsWord word → is_blank byte ≡ true → IsLine rest words → IsLine (word ++ byte ∷ rest) (word ∷ words)
