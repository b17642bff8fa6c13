-- Patterns piece by piece: which names a pattern matches that begins with bytes without a `*`, and that behind a `*` the first place
-- is as good as any other.
use Rattle.std.proofs.Common.{◌≡◌, inl, inr, ℕ, zero, suc, ◌+◌, ◌-◌, position, Some, None, Bool, true, false, ◌==◌, ◌&&◌, ◌||◌, bytes_eq, List, [], ◌∷◌, ◌++◌, length, take, drop, All, refl, sym, ap, ◌∙◌, subst, if◌then◌else◌}
use Rattle.std.proofs.lemmas.Bool.{cases_Bool, and_parts, and_right, or_cases, or_left, or_right, eqb-true, eq-eqb}
use Rattle.std.proofs.lemmas.List.Elements.{All-head, All-tail}
use Rattle.line_words.proofs.CutLemmas.{IsCut-position, none_passes}
use Rattle.node_words.specs.Patterns.{star, is_star, behind_byte, behind_some, matches, Matches}
use Rattle.node_words.specs.Patterns.Matches.{ended, itself, any}

-- no byte of the piece is `*`
abbrev pub IsPiece : List ℕ → Type 0
IsPiece piece = All (λ byte. is_star byte ≡ false) piece

-- two tests with one answer
same_answer : (one other : Bool) → (one ≡ true → other ≡ true) → (other ≡ true → one ≡ true) → one ≡ other
same_answer true true there back = refl
same_answer true false there back = sym (there refl)
same_answer false true there back = back refl
same_answer false false there back = refl

-- a byte that is no `*` matches itself
matches-byte : (own : ℕ) (pattern name : List ℕ) → is_star own ≡ false → matches (own ∷ pattern) name ≡ behind_byte own (matches pattern) name
matches-byte own pattern name plain =
    ap (λ test. if test then behind_some (matches pattern) name else behind_byte own (matches pattern) name) plain

-- a name that begins with a piece is matched where the rest of the pattern matches what is behind the piece
pub matches-begun : (piece pattern name : List ℕ) → IsPiece piece → bytes_eq (take (length piece) name) piece ≡ true →
    matches (piece ++ pattern) name ≡ matches pattern (drop (length piece) name)
matches-begun [] pattern name plain begun = refl
matches-begun (own ∷ piece) pattern [] plain begun = absurd (let e : false ≡ true = begun in cc)
matches-begun (own ∷ piece) pattern (byte ∷ name) plain begun =
    let both = and_parts (byte == own) (bytes_eq (take (length piece) name) piece) begun in
    let same : byte ≡ own = eqb-true byte own both.0 in
    matches-byte own (piece ++ pattern) (byte ∷ name) (All-head (λ b. is_star b ≡ false) own piece plain)
    ∙ ap (λ test. test && matches (piece ++ pattern) name) (eq-eqb own byte (sym same))
    ∙ matches-begun piece pattern name (All-tail (λ b. is_star b ≡ false) own piece plain) both.1

-- and no other name is matched
pub matches-not_begun : (piece pattern name : List ℕ) → IsPiece piece → bytes_eq (take (length piece) name) piece ≡ false →
    matches (piece ++ pattern) name ≡ false
matches-not_begun [] pattern name plain other = absurd (let e : true ≡ false = other in cc)
matches-not_begun (own ∷ piece) pattern [] plain other =
    matches-byte own (piece ++ pattern) [] (All-head (λ b. is_star b ≡ false) own piece plain)
matches-not_begun (own ∷ piece) pattern (byte ∷ name) plain other =
    matches-byte own (piece ++ pattern) (byte ∷ name) (All-head (λ b. is_star b ≡ false) own piece plain)
    ∙ by (byte == own) refl (matches-not_begun piece pattern name (All-tail (λ b. is_star b ≡ false) own piece plain))
  where
    by : (test : Bool) → (byte == own) ≡ test →
        (bytes_eq (take (length piece) name) piece ≡ false → matches (piece ++ pattern) name ≡ false) →
        (own == byte && matches (piece ++ pattern) name) ≡ false
    by false apart later =
        elim (cases_Bool (own == byte)) [
          | inl same ↦ absurd (let e : (byte == own) ≡ true = eq-eqb byte own (sym (eqb-true own byte same)) in cc)
          | inr differ ↦ ap (λ test. test && matches (piece ++ pattern) name) differ
        ]
    by true same later =
        let rest : bytes_eq (take (length piece) name) piece ≡ false =
        sym (ap (λ test. test && bytes_eq (take (length piece) name) piece) same) ∙ other in
        ap (λ test. own == byte && test) (later rest) ∙ and_right (own == byte) false refl

-- a pattern without a `*` matches the name that is equal to it
pub matches-plain : (pattern name : List ℕ) → IsPiece pattern → matches pattern name ≡ bytes_eq pattern name
matches-plain [] [] plain = refl
matches-plain [] (byte ∷ name) plain = refl
matches-plain (own ∷ pattern) [] plain = matches-byte own pattern [] (All-head (λ b. is_star b ≡ false) own pattern plain)
matches-plain (own ∷ pattern) (byte ∷ name) plain =
    matches-byte own pattern (byte ∷ name) (All-head (λ b. is_star b ≡ false) own pattern plain)
    ∙ ap (λ test. own == byte && test) (matches-plain pattern name (All-tail (λ b. is_star b ≡ false) own pattern plain))

-- what passes at the bytes passes behind none of them
behind_some-here : (test : List ℕ → Bool) (bytes : List ℕ) → test bytes ≡ true → behind_some test bytes ≡ true
behind_some-here test [] here = here
behind_some-here test (byte ∷ bytes) here = or_left (test (byte ∷ bytes)) (behind_some test bytes) here

-- what passes behind some bytes passes behind one more
behind_some-less : (test : List ℕ → Bool) (count : ℕ) (bytes : List ℕ) → behind_some test (drop (suc count) bytes) ≡ true →
    behind_some test (drop count bytes) ≡ true
behind_some-less test zero [] passes = passes
behind_some-less test (suc count) [] passes = passes
behind_some-less test zero (byte ∷ bytes) passes = or_right (test (byte ∷ bytes)) (behind_some test bytes) passes
behind_some-less test (suc count) (byte ∷ bytes) passes = behind_some-less test count bytes passes

-- a name that a piece, a `*` and then a pattern match is matched behind as many bytes as the piece has
behind_piece : (piece pattern name : List ℕ) → IsPiece piece → matches (piece ++ star ∷ pattern) name ≡ true →
    behind_some (matches pattern) (drop (length piece) name) ≡ true
behind_piece piece pattern name plain passes =
    elim (cases_Bool (bytes_eq (take (length piece) name) piece)) [
      | inl begun ↦ sym (matches-begun piece (star ∷ pattern) name plain begun) ∙ passes
      | inr other ↦ absurd (let e : matches (piece ++ star ∷ pattern) name ≡ false = matches-not_begun piece (star ∷ pattern) name plain other in cc)
    ]

-- and so is one that they match behind some bytes
behind_pieces : (piece pattern name : List ℕ) → IsPiece piece → behind_some (matches (piece ++ star ∷ pattern)) name ≡ true →
    behind_some (matches pattern) (drop (length piece) name) ≡ true
behind_pieces piece pattern [] plain passes = behind_piece piece pattern [] plain passes
behind_pieces piece pattern (byte ∷ name) plain passes =
    elim (or_cases (matches (piece ++ star ∷ pattern) (byte ∷ name)) (behind_some (matches (piece ++ star ∷ pattern)) name) passes) [
      | inl here ↦ behind_piece piece pattern (byte ∷ name) plain here
      | inr later ↦ behind_some-less (matches pattern) (length piece) (byte ∷ name) (behind_pieces piece pattern name plain later)
    ]

-- where the name begins with the piece behind a `*`, the rest of the pattern is to match behind it
pub behind_some-begun : (piece pattern name : List ℕ) → IsPiece piece → bytes_eq (take (length piece) name) piece ≡ true →
    behind_some (matches pattern) (drop (length piece) name) ≡ behind_some (matches (piece ++ star ∷ pattern)) name
behind_some-begun piece pattern name plain begun =
    same_answer _ _
    (λ passes. behind_some-here (matches (piece ++ star ∷ pattern)) name (matches-begun piece (star ∷ pattern) name plain begun ∙ passes))
    (λ passes. behind_pieces piece pattern name plain passes)

-- if the pattern doesn't match the name, it is to match behind the name's first byte
pub behind_some-without : (pattern : List ℕ) (byte : ℕ) (name : List ℕ) → matches pattern (byte ∷ name) ≡ false →
    behind_some (matches pattern) name ≡ behind_some (matches pattern) (byte ∷ name)
behind_some-without pattern byte name other = ap (λ test. test || behind_some (matches pattern) name) (sym other)

-- and not at all if there is none
pub behind_some-empty : (pattern : List ℕ) → matches pattern [] ≡ false → behind_some (matches pattern) [] ≡ bytes_eq pattern []
behind_some-empty [] other = refl
behind_some-empty (own ∷ pattern) other = other

-- what passes behind some bytes cuts them
behind_some-cut : (test : List ℕ → Bool) (bytes : List ℕ) → behind_some test bytes ≡ true →
    (front : List ℕ) × (rest : List ℕ) × (front ++ rest ≡ bytes) × (test rest ≡ true)
behind_some-cut test [] here = ([], [], refl, here)
behind_some-cut test (byte ∷ bytes) some =
    elim (or_cases (test (byte ∷ bytes)) (behind_some test bytes) some) [
      | inl here ↦ ([], byte ∷ bytes, refl, here)
      | inr later ↦
          let cut = behind_some-cut test bytes later in
          (byte ∷ cut.0, cut.1, ap (λ others. byte ∷ others) cut.2, cut.3)
    ]

-- and what passes at a rest of bytes passes behind what stands before it
behind_some-append : (test : List ℕ → Bool) (front rest : List ℕ) → test rest ≡ true → behind_some test (front ++ rest) ≡ true
behind_some-append test [] rest here = behind_some-here test rest here
behind_some-append test (byte ∷ front) rest here =
    or_right (test (byte ∷ (front ++ rest))) (behind_some test (front ++ rest)) (behind_some-append test front rest here)

-- what a pattern matches is in the grammar
pub Matches-from : (pattern name : List ℕ) → matches pattern name ≡ true → Matches pattern name
Matches-from [] [] passes = ended
Matches-from [] (byte ∷ name) passes = absurd (let e : false ≡ true = passes in cc)
Matches-from (own ∷ pattern) name passes =
    elim (cases_Bool (is_star own)) [
      | inl here ↦
          let some : behind_some (matches pattern) name ≡ true =
          sym (ap (λ test. if test then behind_some (matches pattern) name else behind_byte own (matches pattern) name) here) ∙ passes in
          let cut = behind_some-cut (matches pattern) name some in
          subst (λ byte. Matches (byte ∷ pattern) name) (sym (eqb-true own star here))
          (subst (Matches (star ∷ pattern)) cut.2 (any cut.0 pattern cut.1 (Matches-from pattern cut.1 cut.3)))
      | inr plain ↦ first name plain (sym (matches-byte own pattern name plain) ∙ passes) (Matches-from pattern)
    ]
  where
    first : (name : List ℕ) → is_star own ≡ false → behind_byte own (matches pattern) name ≡ true →
        ((rest : List ℕ) → matches pattern rest ≡ true → Matches pattern rest) → Matches (own ∷ pattern) name
    first [] plain begins shorter = absurd (let e : false ≡ true = begins in cc)
    first (byte ∷ rest) plain begins shorter =
        let both = and_parts (own == byte) (matches pattern rest) begins in
        subst (λ head. Matches (own ∷ pattern) (head ∷ rest)) (eqb-true own byte both.0) (itself own pattern rest plain (shorter rest both.1))

-- and the pattern matches all that is in it
pub matches-from : {pattern name : List ℕ} → Matches pattern name → matches pattern name ≡ true
matches-from ended = refl
matches-from (itself byte pattern name plain rest) =
    matches-byte byte pattern (byte ∷ name) plain
    ∙ ap (λ test. test && matches pattern name) (eq-eqb byte byte refl)
    ∙ matches-from rest
matches-from (any bytes pattern name rest) = behind_some-append (matches pattern) bytes name (matches-from rest)

-- what stands after a place of the pattern, as the program slices it
abbrev pub after : List ℕ → ℕ → List ℕ
after pattern at = take (length pattern - (at + 1)) (drop (at + 1) pattern)

-- a pattern is cut at its first `*`
whole_pattern : (pattern : List ℕ) (at : ℕ) → position is_star pattern ≡ Some at → pattern ≡ take at pattern ++ star ∷ after pattern at
whole_pattern pattern at found =
    let cut = IsCut-position is_star pattern at found in
    cut.whole ∙ ap (λ stop. take at pattern ++ stop ∷ after pattern at) (eqb-true cut.stop star cut.passes)

-- what a pattern with a `*` matches that begins as the name does
pub matches-cut : (pattern name rest : List ℕ) (at : ℕ) → position is_star pattern ≡ Some at →
    bytes_eq (take (length (take at pattern)) name) (take at pattern) ≡ true → rest ≡ drop (length (take at pattern)) name →
    behind_some (matches (after pattern at)) rest ≡ matches pattern name
matches-cut pattern name rest at found begun is =
    let cut = IsCut-position is_star pattern at found in
    ap (behind_some (matches (after pattern at))) is
    ∙ sym (matches-begun (take at pattern) (star ∷ after pattern at) name cut.none_before begun)
    ∙ ap (λ p. matches p name) (sym (whole_pattern pattern at found))

-- one that begins otherwise matches nothing
pub matches-uncut : (pattern name : List ℕ) (at : ℕ) → position is_star pattern ≡ Some at →
    bytes_eq (take (length (take at pattern)) name) (take at pattern) ≡ false → matches pattern name ≡ false
matches-uncut pattern name at found other =
    let cut = IsCut-position is_star pattern at found in
    ap (λ p. matches p name) (whole_pattern pattern at found)
    ∙ matches-not_begun (take at pattern) (star ∷ after pattern at) name cut.none_before other

-- the same behind a `*`
pub behind_some-cut_begun : (pattern name rest : List ℕ) (at : ℕ) → position is_star pattern ≡ Some at →
    bytes_eq (take (length (take at pattern)) name) (take at pattern) ≡ true → rest ≡ drop (length (take at pattern)) name →
    behind_some (matches (after pattern at)) rest ≡ behind_some (matches pattern) name
behind_some-cut_begun pattern name rest at found begun is =
    let cut = IsCut-position is_star pattern at found in
    ap (behind_some (matches (after pattern at))) is
    ∙ behind_some-begun (take at pattern) (after pattern at) name cut.none_before begun
    ∙ ap (λ p. behind_some (matches p) name) (sym (whole_pattern pattern at found))

-- what a pattern without a `*` matches
pub matches-whole : (pattern name : List ℕ) → position is_star pattern ≡ None → matches pattern name ≡ bytes_eq pattern name
matches-whole pattern name none = matches-plain pattern name (none_passes is_star pattern none)

-- behind a `*` too, if it is the name
pub behind_some-whole : (pattern name : List ℕ) → position is_star pattern ≡ None → bytes_eq pattern name ≡ true →
    behind_some (matches pattern) name ≡ bytes_eq pattern name
behind_some-whole pattern name none same =
    behind_some-here (matches pattern) name (matches-whole pattern name none ∙ same) ∙ sym same
