-- The first range of a word, as a scan from left to right finds it.
use Rattle.std.proofs.Common.{◌≡◌, ℕ, ◌+◌, ◌<◌, ◌≤◌, List, [], ◌∷◌, ◌++◌, length, take, drop, get_or, refl, sym, ap, ◌∙◌, Option, Some, None, option_map, position, arith, append_assoc}
use Rattle.std.specs.List.{position_or_len}
use Rattle.std.proofs.lemmas.List.{drop_more, take_more, drop_all}
use Rattle.std.proofs.lemmas.List.Sums.{position_or_len_is}
use Rattle.line_words.proofs.CutLemmas.{none_passes}
use Rattle.node_words.specs.Ranges.{RangeData, is_no_digit, first_range, here_or_later, range_at, with_before}

-- no more bytes before a range
pub with_before-none : (range : RangeData) → with_before [] range ≡ range
with_before-none range = refl

-- bytes before it in two pieces
pub with_before-more : (one other : List ℕ) (range : RangeData) → with_before one (with_before other range) ≡ with_before (one ++ other) range
with_before-more one other range = ap (λ before. record { before = before; first = range.first; last = range.last; after = range.after }) (sym (append_assoc one other range.before))

option_map-same : (range : Option RangeData) → option_map (with_before []) range ≡ range
option_map-same None = refl
option_map-same (Some range) = refl

-- at the start nothing stands before the range that is looked for
pub scan-begins : (word : List ℕ) → first_range word ≡ option_map (with_before (take 0 word)) (first_range (drop 0 word))
scan-begins word = sym (option_map-same (first_range word))

step : (byte : ℕ) (front : List ℕ) (here later : Option RangeData) → here ≡ None →
    option_map (with_before front) (here_or_later byte here later) ≡ option_map (with_before (front ++ byte ∷ [])) later
step byte front here later none = ap (λ h. option_map (with_before front) (here_or_later byte h later)) none ∙ both later
  where
    both : (later : Option RangeData) →
        option_map (with_before front) (option_map (with_before (byte ∷ [])) later) ≡ option_map (with_before (front ++ byte ∷ [])) later
    both None = refl
    both (Some range) = ap Some (with_before-more front (byte ∷ []) range)

-- where none begins at a place, it is looked for one place further
pub scan-more : (word : List ℕ) (at : ℕ) → at < length word → range_at (drop at word) ≡ None →
    option_map (with_before (take at word)) (first_range (drop at word))
    ≡ option_map (with_before (take (at + 1) word)) (first_range (drop (at + 1) word))
scan-more word at inside none =
    let cut = drop_more word at 0 inside in
    let none_here : range_at (get_or word at 0 ∷ drop (at + 1) word) ≡ None = sym (ap range_at cut) ∙ none in
    ap (λ rest. option_map (with_before (take at word)) (first_range rest)) cut
    ∙ step (get_or word at 0) (take at word) (range_at (get_or word at 0 ∷ drop (at + 1) word)) (first_range (drop (at + 1) word)) none_here
    ∙ ap (λ front. option_map (with_before front) (first_range (drop (at + 1) word))) (sym (take_more word at 0 inside))

-- where one begins there, it is the first
pub scan-found : (word : List ℕ) (at : ℕ) (range : RangeData) → at < length word → range_at (drop at word) ≡ Some range →
    option_map (with_before (take at word)) (first_range (drop at word)) ≡ Some (with_before (take at word) range)
scan-found word at range inside found =
    let cut = drop_more word at 0 inside in
    ap (λ rest. option_map (with_before (take at word)) (first_range rest)) cut
    ∙ ap (λ here. option_map (with_before (take at word)) (here_or_later (get_or word at 0) here (first_range (drop (at + 1) word))))
    (sym (ap range_at cut) ∙ found)

-- the end of the word begins none
pub scan-ends : (word : List ℕ) (at : ℕ) → length word ≤ at →
    option_map (with_before (take at word)) (first_range (drop at word)) ≡ None
scan-ends word at past = ap (λ rest. option_map (with_before (take at word)) (first_range rest)) (drop_all at word past)

-- a text that has digits alone
pub digits-all : (text : List ℕ) → position is_no_digit text ≡ None → length text ≡ position_or_len is_no_digit text
digits-all text absent =
    let none = none_passes is_no_digit text absent in
    sym (position_or_len_is is_no_digit text (length text) 0 (omega arith) (λ k low. none k 0 low) (λ inside. absurd (omega arith)))
