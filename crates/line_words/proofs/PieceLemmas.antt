-- The lines of a text that goes on from lines that LFs have ended.
use Rattle.std.proofs.Common.{◌≡◌, ℕ, ◌<◌, List, [], ◌∷◌, ◌++◌, length, refl, sym, ◌∙◌, ap, subst, arith, append_assoc}
use Rattle.line_words.specs.Bytes.{line_feed}
use Rattle.line_words.specs.Lines.{lines_of, without_return, HasNoFeed, IsText}
use Rattle.line_words.specs.Pieces.{AreEnded}
use Rattle.line_words.specs.Lines.IsText.{empty, last, ended}
use Rattle.line_words.specs.Pieces.AreEnded.{no_line, one_more}
use Rattle.line_words.proofs.LineLemmas.{lines_of-ended, IsText-lines_of}

-- the lines of bytes that end with an LF, and then those of what follows
pub lines_of-AreEnded : {front : List ℕ} {lines : List (List ℕ)} → AreEnded front lines → (more : List ℕ)
    → lines_of (front ++ more) ≡ lines ++ lines_of more
lines_of-AreEnded no_line more = refl
lines_of-AreEnded (one_more line rest lines none are) more =
    ap lines_of (append_assoc line (line_feed ∷ rest) more)
    ∙ lines_of-ended line (rest ++ more) none
    ∙ ap (λ others. without_return line ∷ others) (lines_of-AreEnded are more)

-- one line more that an LF ends
pub AreEnded-push : {front : List ℕ} {lines : List (List ℕ)} → AreEnded front lines → (line : List ℕ) → HasNoFeed line
    → AreEnded (front ++ (line ++ line_feed ∷ [])) (lines ++ without_return line ∷ [])
AreEnded-push no_line line none = one_more line [] [] none no_line
AreEnded-push (one_more first rest lines before are) line none =
    subst (λ text. AreEnded text (without_return first ∷ (lines ++ without_return line ∷ [])))
    (sym (append_assoc first (line_feed ∷ rest) (line ++ line_feed ∷ [])))
    (one_more first (rest ++ (line ++ line_feed ∷ [])) (lines ++ without_return line ∷ []) before (AreEnded-push are line none))

-- a text with a byte has a line
pub lines_of-some : (text : List ℕ) → 0 < length text → 0 < length (lines_of text)
lines_of-some text some = by text (lines_of text) (IsText-lines_of text) some where
  by : (bytes : List ℕ) (lines : List (List ℕ)) → IsText bytes lines → 0 < length bytes → 0 < length lines
  by _ _ empty some = absurd (omega arith)
  by _ _ (last line full none) some = omega arith
  by _ _ (ended line rest others none more) some = omega arith
