-- The words of a line that has no fault and is no comment are visible names.
use Rattle.std.proofs.Common.{◌≡◌, ℕ, ◌≤◌, Bool, true, false, ◌&&◌, ◌||◌, List, [], ◌∷◌, ◌++◌, length, All, Some, None, if◌then◌else◌, nat_le, nat_lt, refl, sym, ap, ◌∙◌}
use Rattle.std.specs.List.{AllPass, list_all}
use Rattle.std.proofs.lemmas.Bool.{and_parts, leb-true}
use Rattle.std.proofs.Math.Seq.{take-append_seam, drop-append_seam}
use Rattle.std.proofs.lemmas.List.Elements.{All-nil, All-cons, All-tail, All-same, All-take, All-drop}
use Rattle.std.proofs.lemmas.List.Sums.{AllPass-from_list_all}
use Rattle.line_words.specs.declared.line_check.LineFault.TheVariants as of_line
use Rattle.line_words.specs.declared.line_check.TheConstants.{LONGEST_LINE}
use Rattle.line_words.specs.Bytes.{first_visible, is_blank, is_line_byte, last_visible}
use Rattle.line_words.specs.LineFaults.{line_fault, is_comment}
use Rattle.line_words.specs.Visible.{IsVisibleName}
use Rattle.line_words.specs.Words.{words_of, IsWord, IsLine}
use Rattle.line_words.specs.Words.IsLine.{empty, blank, last, ended}
use Rattle.line_words.proofs.WordLemmas.{IsLine-words_of}

-- each byte may stand in a line
abbrev IsPlain : List ℕ → Type 0
IsPlain line = AllPass is_line_byte line

-- a byte of a line that isn't a blank is visible
visible : (byte : ℕ) → is_line_byte byte ≡ true → is_blank byte ≡ false → (first_visible ≤ byte) × (byte ≤ last_visible)
visible byte plain solid =
    let both = and_parts (nat_le first_visible byte) (nat_le byte last_visible)
    (sym (ap (λ blank. blank || (nat_le first_visible byte && nat_le byte last_visible)) solid) ∙ plain) in
    (leb-true first_visible byte both.0, leb-true byte last_visible both.1)

-- a word of bytes that may stand in a line is a visible name
IsVisibleName-word : (word : List ℕ) → IsWord word → IsPlain word → IsVisibleName word
IsVisibleName-word word is plain = record {
  some = is.has_byte;
  visible = λ k d inside. visible _ (plain k d inside) (is.no_blank k d inside);
}

-- what stands before a byte, and what stands after it, are plain in a plain line
IsPlain-before : (word : List ℕ) (byte : ℕ) (rest : List ℕ) → IsPlain (word ++ byte ∷ rest) → IsPlain word
IsPlain-before word byte rest plain =
    All-same (λ b. is_line_byte b ≡ true) _ _ (sym (take-append_seam word (byte ∷ rest)))
    (All-take (λ b. is_line_byte b ≡ true) (length word) (word ++ byte ∷ rest) plain)

IsPlain-after : (word : List ℕ) (byte : ℕ) (rest : List ℕ) → IsPlain (word ++ byte ∷ rest) → IsPlain rest
IsPlain-after word byte rest plain =
    All-tail (λ b. is_line_byte b ≡ true) byte rest
    (All-same (λ b. is_line_byte b ≡ true) _ _ (sym (drop-append_seam word (byte ∷ rest)))
    (All-drop (λ b. is_line_byte b ≡ true) (length word) (word ++ byte ∷ rest) plain))

-- what the grammar cuts a plain line into are visible names
visible_parts : {line : List ℕ} {words : List (List ℕ)} → IsLine line words → IsPlain line → All IsVisibleName words
visible_parts empty plain = All-nil IsVisibleName
visible_parts (blank byte rest words stops more) plain = visible_parts more (All-tail (λ b. is_line_byte b ≡ true) byte rest plain)
visible_parts (last word is) plain = All-cons IsVisibleName word [] (IsVisibleName-word word is plain) (All-nil IsVisibleName)
visible_parts (ended word byte rest words is stops more) plain =
    All-cons IsVisibleName word words (IsVisibleName-word word is (IsPlain-before word byte rest plain))
    (visible_parts more (IsPlain-after word byte rest plain))

-- so the words of bytes that may stand in a line are visible names
pub plain_words-visible : (bytes : List ℕ) → AllPass is_line_byte bytes → All IsVisibleName (words_of bytes)
plain_words-visible bytes plain = visible_parts (IsLine-words_of bytes) plain

-- a line that has no fault and is no comment is plain
IsPlain-line : (line : List ℕ) → line_fault line ≡ None → is_comment line ≡ false → IsPlain line
IsPlain-line line sound other =
    AllPass-from_list_all is_line_byte line (plain (nat_lt LONGEST_LINE (length line)) (is_comment line) (list_all is_line_byte line) sound other)
  where
    plain : (long comment all : Bool) →
        (if long then Some of_line.TooLong else (if comment || all then None else Some of_line.BadByte)) ≡ None → comment ≡ false → all ≡ true
    plain true comment all sound other = cc
    plain false true all sound other = cc
    plain false false true sound other = refl
    plain false false false sound other = cc

-- so its words are visible names
pub words_of-visible : (line : List ℕ) → line_fault line ≡ None → is_comment line ≡ false → All IsVisibleName (words_of line)
words_of-visible line sound other = plain_words-visible line (IsPlain-line line sound other)
