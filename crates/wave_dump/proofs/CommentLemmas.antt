-- No word of an escaped line begins with `$`.
use Rattle.std.proofs.Common.{◌≡◌, ◌≢◌, ℕ, Bool, true, false, List, [], ◌∷◌, ◌++◌, refl, ap, arith, inl, inr}
use Rattle.std.specs.Prelude.{◌==◌, if◌then◌else◌}
use Rattle.std.proofs.lemmas.Bool.{cases_eq}
use Rattle.std.proofs.lemmas.Bool.Decides.{nat_tests}
use Rattle.wave_dump.specs.Comments.{escaped_from}
use Rattle.wave_dump.specs.Laws.{HasNoMark, CommentsEnd}

-- the two cases of a byte at which a word may begin
first_byte : {A : Type 0} → (P : A → Type 0) (byte : ℕ) (one two : A) → (byte ≡ 36 → P one) → (byte ≢ 36 → P two) →
    P (if byte == 36 then one else two)
first_byte P byte one two here other = elim (cases_eq byte 36) [
  | inl same ↦ rw same (here same)
  | inr differs ↦ grind (arith, nat_tests, differs, other differs)
]

none : (begins : Bool) (line : List ℕ) → HasNoMark begins (escaped_from begins line)
none begins [] = tt
none true (byte ∷ line) =
    first_byte (λ front. HasNoMark true (front ++ escaped_from (byte == 32) line)) byte (92 ∷ byte ∷ []) (byte ∷ [])
    (λ is. ((λ same. absurd (omega (arith, same))), none (byte == 32) line))
    (λ differs. (differs, none (byte == 32) line))
none false (byte ∷ line) = none (byte == 32) line

same : (begins : Bool) (line : List ℕ) → HasNoMark begins line → escaped_from begins line ≡ line
same begins [] has = refl
same true (byte ∷ line) has =
    first_byte (λ front. front ++ escaped_from (byte == 32) line ≡ byte ∷ line) byte (92 ∷ byte ∷ []) (byte ∷ [])
    (λ is. absurd (has.0 is))
    (λ differs. ap (λ text. byte ∷ text) (same (byte == 32) line has.1))
same false (byte ∷ line) has = ap (λ text. byte ∷ text) (same (byte == 32) line has)

pub comments : CommentsEnd
comments = record { none = λ line. none true line; same = λ line has. same true line has }
