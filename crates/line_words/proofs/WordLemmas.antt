-- The words of a line that is cut at its first blank, and that the words are those of the grammar.
use Rattle.std.proofs.Common.{◌≡◌, ℕ, suc, ◌<◌, ◌≤◌, Bool, true, false, not, List, [], ◌∷◌, ◌++◌, ◌-◌, length, take, drop, position, filter, Some, None, IfSome, slice_get, All, inl, inr, refl, sym, ◌∙◌, ap, subst, arith, one-add, drop-cons, get_or, length-append}
use Rattle.std.specs.List.{position_or_len}
use Rattle.std.proofs.lemmas.Bool.{cases_Bool, cond-true, cond-false, not-true, not-false}
use Rattle.std.proofs.lemmas.List.Elements.{All-head, All-tail}
use Rattle.std.proofs.lemmas.List.Quantifiers.{position-Some}
use Rattle.std.proofs.lemmas.List.Sums.{position_or_len_is}
use Rattle.std.proofs.lemmas.List.Splits.{slice_split_none, slice_split_at, slice_split-cons_yes}
use Rattle.line_words.specs.Bytes.{is_blank}
use Rattle.line_words.specs.Words.{is_word, words_of, IsWord, IsLine}
use Rattle.line_words.specs.Words.IsLine.{empty, blank, last, ended}
use Rattle.line_words.proofs.CutLemmas.{IsCut, by_cuts, none_passes, rest_from}

-- a part with a byte is a word
is_word-some : (part : List ℕ) → 0 < length part → is_word part ≡ true
is_word-some [] h = absurd (omega arith)
is_word-some (byte ∷ part) h = refl

-- a word that a blank ends, and then the words of the rest
pub words_of-ended : (word : List ℕ) (byte : ℕ) (rest : List ℕ) → IsWord word → is_blank byte ≡ true
    → words_of (word ++ byte ∷ rest) ≡ word ∷ words_of rest
words_of-ended word byte rest is stops =
    ap (filter is_word) (slice_split_at is_blank word byte rest is.no_blank stops)
    ∙ cond-true (is_word word) _ _ (is_word-some word is.has_byte)

-- a last word with no blank after it
pub words_of-last : (word : List ℕ) → IsWord word → words_of word ≡ word ∷ []
words_of-last word is =
    ap (filter is_word) (slice_split_none is_blank word is.no_blank)
    ∙ cond-true (is_word word) _ _ (is_word-some word is.has_byte)

-- a blank at the front is in no word
pub words_of-blank : (byte : ℕ) (rest : List ℕ) → is_blank byte ≡ true → words_of (byte ∷ rest) ≡ words_of rest
words_of-blank byte rest stops = ap (filter is_word) (slice_split-cons_yes is_blank byte rest stops)

-- the first byte of a line isn't a blank, if it has one
pub record StartsWord (line : List ℕ) : Type 0 where
  pub some : 0 < length line
  pub solid : IfSome (slice_get line 0) (λ byte. is_blank byte ≡ false)

-- what stands before the first blank is a word then
pub IsWord-cut : (line word rest : List ℕ) → StartsWord line → IsCut is_blank line word rest → IsWord word
IsWord-cut line [] rest starts cut =
    let solid : is_blank cut.stop ≡ false =
    subst (λ bytes. IfSome (slice_get bytes 0) (λ byte. is_blank byte ≡ false)) cut.whole starts.solid in
    absurd (let same : true ≡ false = sym cut.passes ∙ solid in cc)
IsWord-cut line (byte ∷ word) rest starts cut = record { has_byte = omega arith; no_blank = cut.none_before }

-- the same at a cut, as the program makes it
pub words_of-cut : {line word rest : List ℕ} → StartsWord line → IsCut is_blank line word rest
    → words_of line ≡ word ∷ words_of rest
words_of-cut {line} {word} {rest} starts cut =
    ap words_of cut.whole ∙ words_of-ended word cut.stop rest (IsWord-cut line word rest starts cut) cut.passes

-- a byte that may stand in a word
abbrev is_solid : ℕ → Bool
is_solid byte = not (is_blank byte)

-- the words are those after the blanks at the front
words_of-after_blanks : (line : List ℕ) → words_of (drop (position_or_len is_solid line) line) ≡ words_of line
words_of-after_blanks [] = refl
words_of-after_blanks (byte ∷ rest) =
    elim (cases_Bool (is_blank byte)) [
      | inl stops ↦
          let more : position_or_len is_solid (byte ∷ rest) ≡ suc (position_or_len is_solid rest) =
          cond-true (not (is_solid byte)) _ _ (ap (λ b. not (not b)) stops) ∙ one-add (position_or_len is_solid rest) in
          ap (λ n. words_of (drop n (byte ∷ rest))) more ∙ words_of-after_blanks rest ∙ sym (words_of-blank byte rest stops)
      | inr solid ↦
          let none : position_or_len is_solid (byte ∷ rest) ≡ 0 =
          cond-false (not (is_solid byte)) _ _ (ap (λ b. not (not b)) solid) in
          ap (λ n. words_of (drop n (byte ∷ rest))) none
    ]

-- the same, as the program slices the line
pub words_of-skipped : (line : List ℕ) (at : ℕ) → position is_solid line ≡ Some at
    → words_of (take (length line - at) (drop at line)) ≡ words_of line
words_of-skipped line at found =
    let place = position-Some is_solid line at 0 found in
    let first : position_or_len is_solid line ≡ at =
    position_or_len_is is_solid line at 0 (omega (arith, place.0)) place.2 (λ _. place.1) in
    ap words_of (rest_from line at) ∙ ap (λ n. words_of (drop n line)) (sym first) ∙ words_of-after_blanks line

-- the part that is sliced starts with a word
pub solid-skipped : (line : List ℕ) (at : ℕ) → position is_solid line ≡ Some at
    → IfSome (slice_get (take (length line - at) (drop at line)) 0) (λ byte. is_blank byte ≡ false)
solid-skipped line at found =
    let place = position-Some is_solid line at 0 found in
    let whole : take (length line - at) (drop at line) ≡ get_or line at 0 ∷ drop (suc at) line =
    rest_from line at ∙ drop-cons line at 0 place.0 in
    subst (λ bytes. IfSome (slice_get bytes 0) (λ byte. is_blank byte ≡ false)) (sym whole) (not-true _ place.1)

-- blanks alone have no words
words_of-all_blank : (line : List ℕ) → All (λ byte. is_solid byte ≡ false) line → words_of line ≡ []
words_of-all_blank [] all = refl
words_of-all_blank (byte ∷ rest) all =
    words_of-blank byte rest (not-false _ (All-head (λ b. is_solid b ≡ false) byte rest all))
    ∙ words_of-all_blank rest (All-tail (λ b. is_solid b ≡ false) byte rest all)

pub words_of-blanks : (line : List ℕ) → position is_solid line ≡ None → words_of line ≡ []
words_of-blanks line absent = words_of-all_blank line (none_passes is_solid line absent)

-- what the grammar cuts a line into are its words
pub words_of-IsLine : {line : List ℕ} {words : List (List ℕ)} → IsLine line words → words ≡ words_of line
words_of-IsLine empty = refl
words_of-IsLine (blank byte rest words stops more) = words_of-IsLine more ∙ sym (words_of-blank byte rest stops)
words_of-IsLine (last word is) = sym (words_of-last word is)
words_of-IsLine (ended word byte rest words is stops more) =
    ap (λ others. word ∷ others) (words_of-IsLine more) ∙ sym (words_of-ended word byte rest is stops)

-- each word of the grammar takes a byte at least
length-IsLine : {line : List ℕ} {words : List (List ℕ)} → IsLine line words → length words ≤ length line
length-IsLine empty = omega arith
length-IsLine (blank byte rest words stops more) = omega (arith, length-IsLine more)
length-IsLine (last word is) = is.has_byte
length-IsLine (ended word byte rest words is stops more) =
    omega (arith, length-IsLine more, length-append word (byte ∷ rest))

-- those of a line that is cut at a blank are, where those after the blank are
IsLine-cut : (line word rest : List ℕ) → IsCut is_blank line word rest → IsLine rest (words_of rest) → IsLine line (words_of line)
IsLine-cut line [] rest cut more =
    subst (λ bytes. IsLine bytes (words_of bytes)) (sym cut.whole)
    (subst (IsLine (cut.stop ∷ rest)) (sym (words_of-blank cut.stop rest cut.passes)) (blank cut.stop rest (words_of rest) cut.passes more))
IsLine-cut line (byte ∷ part) rest cut more =
    let word : List ℕ = byte ∷ part in
    let is : IsWord word = record { has_byte = omega arith; no_blank = cut.none_before } in
    subst (λ bytes. IsLine bytes (words_of bytes)) (sym cut.whole)
    (subst (IsLine (word ++ cut.stop ∷ rest)) (sym (words_of-ended word cut.stop rest is cut.passes))
    (ended word cut.stop rest (words_of rest) is cut.passes more))

-- the words of a line are by the grammar
pub IsLine-words_of : (line : List ℕ) → IsLine line (words_of line)
IsLine-words_of line =
    by_cuts is_blank (λ bytes. IsLine bytes (words_of bytes)) empty
    (λ word some none.
    let is : IsWord word = record { has_byte = some; no_blank = none } in
    subst (IsLine word) (sym (words_of-last word is)) (last word is))
    IsLine-cut line

-- a line has no more words than bytes
pub length-words_of : (line : List ℕ) → length (words_of line) ≤ length line
length-words_of line = length-IsLine (IsLine-words_of line)
