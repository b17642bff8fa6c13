-- The line that holds a byte, by counting the LFs before the byte.
use Rattle.std.proofs.Common.{◌≡◌, ℕ, suc, ◌+◌, ◌-◌, ◌<◌, false, cond, List, [], ◌∷◌, ◌++◌, length, take, get_or, count_by, inl, inr, refl, sym, ◌∙◌, ap, ap₂, subst, arith, eqb-true, append_assoc, length-append}
use Rattle.std.proofs.lemmas.Bool.{cases_Bool, cond-false}
use Rattle.std.proofs.lemmas.List.{take_more}
use Rattle.std.proofs.lemmas.List.Elements.{All-nil, All-head, All-tail, All-push}
use Rattle.std.proofs.lemmas.List.Sums.{sum_by-cons, sum_by-append}
use Rattle.line_words.specs.Bytes.{line_feed, is_line_feed}
use Rattle.line_words.specs.Lines.{lines_of, HasNoFeed, CountsFeeds}
use Rattle.line_words.proofs.CutLemmas.{by_cuts}
use Rattle.line_words.proofs.LineLemmas.{cut_feed, lines_of-ended, lines_of-last}

-- what a byte adds to the count of LFs
abbrev feeds : ℕ → ℕ
feeds byte = cond (is_line_feed byte) 1 0

-- no LF is counted if there is none
count_by-none : (line : List ℕ) → HasNoFeed line → count_by is_line_feed line ≡ 0
count_by-none [] none = refl
count_by-none (byte ∷ line) none =
    sum_by-cons feeds byte line
    ∙ ap₂ ◌+◌ (cond-false (is_line_feed byte) 1 0 (All-head (λ b. is_line_feed b ≡ false) byte line none))
    (count_by-none line (All-tail (λ b. is_line_feed b ≡ false) byte line none))

-- a line that LF ends adds one
count_by-ended : (line rest : List ℕ) → HasNoFeed line
    → count_by is_line_feed (line ++ line_feed ∷ rest) ≡ count_by is_line_feed rest + 1
count_by-ended line rest none =
    let parts = sum_by-append feeds line (line_feed ∷ rest) in
    let after = sum_by-cons feeds line_feed rest in
    let before = count_by-none line none in
    omega (arith, parts, after, before)

-- a text that has no LF before its last byte is one line
pub length-lines_of-one : (text : List ℕ) (byte : ℕ) → HasNoFeed text → length (lines_of (text ++ byte ∷ [])) ≡ 1
length-lines_of-one text byte none =
    elim (cases_Bool (is_line_feed byte)) [
      | inl feed ↦
          ap (λ b. length (lines_of (text ++ b ∷ []))) (eqb-true byte line_feed feed) ∙ ap length (lines_of-ended text [] none)
      | inr other ↦
          let some : 0 < length (text ++ byte ∷ []) = omega (arith, length-append text (byte ∷ [])) in
          ap length (lines_of-last (text ++ byte ∷ []) some (All-push (λ b. is_line_feed b ≡ false) text byte none other))
    ]

-- the lines up to a byte are as many as the LFs before it, and one
length-lines_of-up_to : (text : List ℕ) (byte : ℕ) → length (lines_of (text ++ byte ∷ [])) ≡ count_by is_line_feed text + 1
length-lines_of-up_to text byte =
    by_cuts is_line_feed (λ before. length (lines_of (before ++ byte ∷ [])) ≡ count_by is_line_feed before + 1)
    (length-lines_of-one [] byte (All-nil (λ b. is_line_feed b ≡ false)))
    (λ line some none. length-lines_of-one line byte none ∙ ap (λ n. n + 1) (sym (count_by-none line none)))
    (λ bytes line rest cut more.
    let whole : length (lines_of ((line ++ line_feed ∷ rest) ++ byte ∷ [])) ≡ suc (length (lines_of (rest ++ byte ∷ []))) =
    ap (λ all. length (lines_of all)) (append_assoc line (line_feed ∷ rest) (byte ∷ []))
    ∙ ap length (lines_of-ended line (rest ++ byte ∷ []) cut.none_before) in
    let counted = count_by-ended line rest cut.none_before in
    subst (λ before. length (lines_of (before ++ byte ∷ [])) ≡ count_by is_line_feed before + 1) (sym (cut_feed cut))
    (omega (arith, more, whole, counted)))
    text

-- the line that holds a byte is told by the LFs before the byte
pub CountsFeeds-text : (text : List ℕ) → CountsFeeds text
CountsFeeds-text text = λ place some within.
    let before : List ℕ = take (place - 1) text in
    let at : place ≡ (place - 1) + 1 = omega arith in
    let up_to : take place text ≡ before ++ get_or text (place - 1) 0 ∷ [] =
    ap (λ n. take n text) at ∙ take_more text (place - 1) 0 (omega arith) in
    ap (λ part. length (lines_of part)) up_to
    ∙ length-lines_of-up_to before (get_or text (place - 1) 0)
