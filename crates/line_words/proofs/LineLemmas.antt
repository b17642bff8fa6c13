-- The lines of a text that is cut at its first LF, and that the lines are those of the grammar.
use Rattle.std.proofs.Common.{◌≡◌, ℕ, ◌<◌, ◌≤◌, List, [], ◌∷◌, ◌++◌, map, length, refl, sym, ◌∙◌, ap, subst, arith, eqb-true, length-append}
use Rattle.std.specs.List.{slice_split}
use Rattle.std.proofs.lemmas.List.Splits.{slice_split_none, slice_split_at, length-slice_split}
use Rattle.line_words.specs.Bytes.{line_feed, is_line_feed}
use Rattle.line_words.specs.Lines.{less_empty_last, without_return, lines_of, HasNoFeed, IsText}
use Rattle.line_words.specs.Lines.IsText.{empty, last, ended}
use Rattle.line_words.proofs.CutLemmas.{IsCut, by_cuts}

-- a part with others after it stays
less_empty_last-more : (part : List ℕ) (parts : List (List ℕ)) → 0 < length parts
    → less_empty_last (part ∷ parts) ≡ part ∷ less_empty_last parts
less_empty_last-more [] [] h = absurd (omega arith)
less_empty_last-more [] (next ∷ parts) h = refl
less_empty_last-more (byte ∷ part) [] h = refl
less_empty_last-more (byte ∷ part) (next ∷ parts) h = refl

-- a last part with a byte stays
less_empty_last-last : (part : List ℕ) → 0 < length part → less_empty_last (part ∷ []) ≡ part ∷ []
less_empty_last-last [] h = absurd (omega arith)
less_empty_last-last (byte ∷ part) h = refl

-- a line that LF ends, and then the lines of the rest
pub lines_of-ended : (line rest : List ℕ) → HasNoFeed line
    → lines_of (line ++ line_feed ∷ rest) ≡ without_return line ∷ lines_of rest
lines_of-ended line rest none =
    let parts = slice_split is_line_feed rest in
    let some : 0 < length parts = omega (arith, length-slice_split is_line_feed rest) in
    ap (λ ps. map without_return (less_empty_last ps)) (slice_split_at is_line_feed line line_feed rest none refl)
    ∙ ap (map without_return) (less_empty_last-more line parts some)

-- a last line with no LF
pub lines_of-last : (line : List ℕ) → 0 < length line → HasNoFeed line → lines_of line ≡ without_return line ∷ []
lines_of-last line some none =
    ap (λ ps. map without_return (less_empty_last ps)) (slice_split_none is_line_feed line none)
    ∙ ap (map without_return) (less_empty_last-last line some)

-- a text is cut at an LF
pub cut_feed : {text line rest : List ℕ} → IsCut is_line_feed text line rest → text ≡ line ++ line_feed ∷ rest
cut_feed {text} {line} {rest} cut = cut.whole ∙ ap (λ stop. line ++ stop ∷ rest) (eqb-true cut.stop line_feed cut.passes)

-- the same at a cut, as the program makes it
pub lines_of-cut : {text line rest : List ℕ} → IsCut is_line_feed text line rest
    → lines_of text ≡ without_return line ∷ lines_of rest
lines_of-cut {text} {line} {rest} cut = ap lines_of (cut_feed cut) ∙ lines_of-ended line rest cut.none_before

-- what the grammar cuts a text into are its lines
pub lines_of-IsText : {text : List ℕ} {lines : List (List ℕ)} → IsText text lines → lines ≡ lines_of text
lines_of-IsText empty = refl
lines_of-IsText (last line some none) = sym (lines_of-last line some none)
lines_of-IsText (ended line rest lines none more) =
    ap (λ others. without_return line ∷ others) (lines_of-IsText more) ∙ sym (lines_of-ended line rest none)

-- each line of the grammar takes a byte at least
length-IsText : {text : List ℕ} {lines : List (List ℕ)} → IsText text lines → length lines ≤ length text
length-IsText empty = omega arith
length-IsText (last line some none) = some
length-IsText (ended line rest lines none more) =
    omega (arith, length-IsText more, length-append line (line_feed ∷ rest))

-- the lines of a text are by the grammar
pub IsText-lines_of : (text : List ℕ) → IsText text (lines_of text)
IsText-lines_of text =
    by_cuts is_line_feed (λ bytes. IsText bytes (lines_of bytes)) empty
    (λ line some none. subst (IsText line) (sym (lines_of-last line some none)) (last line some none))
    (λ bytes line rest cut more.
    subst (λ whole. IsText whole (lines_of whole)) (sym (cut_feed cut))
    (subst (IsText (line ++ line_feed ∷ rest)) (sym (lines_of-ended line rest cut.none_before))
    (ended line rest (lines_of rest) cut.none_before more)))
    text

-- a text has no more lines than bytes
pub length-lines_of : (text : List ℕ) → length (lines_of text) ≤ length text
length-lines_of text = length-IsText (IsText-lines_of text)
