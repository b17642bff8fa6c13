-- The words of a comment from its first `|`, and what a header names, word by word.
use Rattle.std.proofs.Common.{◌≡◌, ℕ, ◌+◌, ◌-◌, ◌<◌, Bool, true, false, cond, List, [], ◌∷◌, length, take, drop, position, codes, bytes_eq, Option, Some, None, inl, inr, refl, sym, ◌∙◌, ap, arith, lt-ltb}
use Rattle.std.specs.List.{after_first, position_or_len}
use Rattle.std.proofs.lemmas.Bool.{cases_lt, cond-true}
use Rattle.std.proofs.lemmas.List.{drop_all}
use Rattle.std.proofs.lemmas.List.Quantifiers.{position-Some}
use Rattle.std.proofs.lemmas.List.Sums.{position_or_len_is}
use Rattle.line_words.proofs.CutLemmas.{rest_from}
use Rattle.sim_read.specs.Header.{format_of, is_rising}

-- what stands after the first byte that passes, as the program slices it
pub after_first-at : (p : ℕ → Bool) (line : List ℕ) (at : ℕ) → position p line ≡ Some at
    → after_first p line ≡ take (length line - (at + 1)) (drop (at + 1) line)
after_first-at p line at found =
    let place = position-Some p line at 0 found in
    let first : position_or_len p line ≡ at =
    position_or_len_is p line at 0 (omega (arith, place.0)) place.2 (λ _. place.1) in
    ap (λ n. drop (n + 1) line) first ∙ sym (rest_from line (at + 1))

-- nothing stands after it if no byte passes
pub after_first-none : (p : ℕ → Bool) (line : List ℕ) → position p line ≡ None → after_first p line ≡ []
after_first-none p line absent =
    elim (cases_lt (position_or_len p line) (length line)) [
      | inl found ↦ absurd (let there : position p line ≡ Some (position_or_len p line) = cond-true _ _ _ (lt-ltb _ _ found) in cc)
      | inr past ↦ drop_all (position_or_len p line + 1) line (omega arith)
    ]

-- the format that words name after a word that is `format:` or isn't
abbrev pub format_after : Bool → List (List ℕ) → Option (List ℕ)
format_after false words = format_of words
format_after true [] = None
format_after true (word ∷ words) = Some word

-- a header's format, by its first word and the others
pub format_of-cons : (word : List ℕ) (words : List (List ℕ)) → format_of (word ∷ words) ≡ format_after (bytes_eq word (codes "format:")) words
format_of-cons word [] = none (bytes_eq word (codes "format:")) where
  none : (is_key : Bool) → None ≡ format_after is_key []
  none true = refl
  none false = refl
format_of-cons word (next ∷ words) = by_key (bytes_eq word (codes "format:")) where
  by_key : (is_key : Bool) → cond is_key (Some next) (format_of (next ∷ words)) ≡ format_after is_key (next ∷ words)
  by_key true = refl
  by_key false = refl

-- ---- thresholds

-- fewer numbers than two rise
pub is_rising-few : (numbers : List ℕ) → length numbers < 2 → is_rising numbers ≡ true
is_rising-few [] few = refl
is_rising-few (first ∷ []) few = refl
is_rising-few (first ∷ second ∷ numbers) few = absurd (omega arith)
