-- A comment is blanks, `|` and any bytes.
use Rattle.std.proofs.Common.{◌≡◌, ℕ, true, false, ◌==◌, List, [], ◌∷◌, ◌++◌, All, inl, inr, refl, sym, ◌∙◌, ap, eqb-true}
use Rattle.std.proofs.lemmas.Bool.{cases_Bool, cond-true, cond-false, not_from_true, not_from_false}
use Rattle.std.proofs.lemmas.List.Elements.{All-nil, All-cons, All-head, All-tail}
use Rattle.std.specs.Option.{option_map_or}
use Rattle.line_words.specs.Bytes.{bar, is_blank}
use Rattle.line_words.specs.LineFaults.{is_comment, IsComment}

-- a blank at the front changes nothing
is_comment-blank : (byte : ℕ) (rest : List ℕ) → is_blank byte ≡ true → is_comment (byte ∷ rest) ≡ is_comment rest
is_comment-blank byte rest blank =
    ap (λ first. option_map_or (λ b. b == bar) first false) (cond-false _ _ _ (not_from_true _ blank))

-- where the first byte isn't a blank, it decides
is_comment-solid : (byte : ℕ) (rest : List ℕ) → is_blank byte ≡ false → is_comment (byte ∷ rest) ≡ (byte == bar)
is_comment-solid byte rest solid =
    ap (λ first. option_map_or (λ b. b == bar) first false) (cond-true _ _ _ (not_from_false _ solid))

-- a line that the test takes has the parts of a comment
pub IsComment-from_test : (line : List ℕ) → is_comment line ≡ true → IsComment line
IsComment-from_test [] test = absurd (cc)
IsComment-from_test (byte ∷ rest) test =
    elim (cases_Bool (is_blank byte)) [
      | inl blank ↦
          let more = IsComment-from_test rest (sym (is_comment-blank byte rest blank) ∙ test) in
          record {
            blanks = byte ∷ more.blanks;
            text = more.text;
            parts = ap (λ others. byte ∷ others) more.parts;
            all_blank = All-cons (λ b. is_blank b ≡ true) byte more.blanks blank more.all_blank;
          }
      | inr solid ↦ record {
        blanks = [];
        text = rest;
        parts = ap (λ first. first ∷ rest) (eqb-true byte bar (sym (is_comment-solid byte rest solid) ∙ test));
        all_blank = All-nil (λ b. is_blank b ≡ true);
      }
    ]

-- the test takes blanks, `|` and any bytes
is_comment-parts : (blanks text : List ℕ) → All (λ byte. is_blank byte ≡ true) blanks → is_comment (blanks ++ bar ∷ text) ≡ true
is_comment-parts [] text all = refl
is_comment-parts (byte ∷ blanks) text all =
    is_comment-blank byte (blanks ++ bar ∷ text) (All-head (λ b. is_blank b ≡ true) byte blanks all)
    ∙ is_comment-parts blanks text (All-tail (λ b. is_blank b ≡ true) byte blanks all)

-- the test takes a line that has the parts of a comment
pub is_comment-IsComment : (line : List ℕ) → IsComment line → is_comment line ≡ true
is_comment-IsComment line is = ap is_comment is.parts ∙ is_comment-parts is.blanks is.text is.all_blank
