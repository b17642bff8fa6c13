-- Bytes cut at the first one that passes a test: how `position` finds the place, and that bytes are cut or none passes.
use Rattle.std.proofs.Common.{◌≡◌, ℕ, zero, suc, ◌+◌, ◌-◌, ◌<◌, ◌≤◌, ◌⊎◌, Bool, true, false, List, [], ◌∷◌, ◌++◌, length, take, drop, get_or, position, Some, None, All, inl, inr, refl, ◌∙◌, ap, arith, add-one, length-append, length-take, length-drop, take_all, lt-ltb}
use Rattle.std.proofs.Math.Seq.{split_at}
use Rattle.std.specs.List.{position_or_len}
use Rattle.std.proofs.lemmas.Bool.{cases_Bool, cases_lt, cond-true}
use Rattle.std.proofs.lemmas.List.{get_or-take}
use Rattle.std.proofs.lemmas.List.Elements.{All-nil, All-cons, All-from_get_or}
use Rattle.std.proofs.lemmas.List.Quantifiers.{position-Some}
use Rattle.std.proofs.lemmas.List.Sums.{fails_before_first}

-- before the byte at which the bytes are cut none passes, and that one does
pub record IsCut (p : ℕ → Bool) (bytes before after : List ℕ) : Type 0 where
  pub stop : ℕ
  pub whole : bytes ≡ before ++ stop ∷ after
  pub none_before : All (λ byte. p byte ≡ false) before
  pub passes : p stop ≡ true

-- the rest of the bytes, as the program slices it
pub rest_from : (bytes : List ℕ) (n : ℕ) → take (length bytes - n) (drop n bytes) ≡ drop n bytes
rest_from bytes n = take_all _ _ (omega (arith, length-drop n bytes))

-- `position` gives the place of the cut
pub IsCut-position : (p : ℕ → Bool) (bytes : List ℕ) (at : ℕ) → position p bytes ≡ Some at
    → IsCut p bytes (take at bytes) (take (length bytes - (at + 1)) (drop (at + 1) bytes))
IsCut-position p bytes at found =
    let place = position-Some p bytes at 0 found in
    record {
      stop = get_or bytes at 0;
      whole = rw (rest_from bytes (at + 1), add-one) (split_at bytes at 0 place.0);
      none_before = All-from_get_or (λ byte. p byte ≡ false) (take at bytes) 0 (λ k h.
          let below : k < at = omega (arith, length-take {A = ℕ}) in
          rw (get_or-take at bytes k 0 below) (place.2 k below));
      passes = place.1;
    }

-- where `position` gives no place, no byte passes
pub none_passes : (p : ℕ → Bool) (bytes : List ℕ) → position p bytes ≡ None → All (λ byte. p byte ≡ false) bytes
none_passes p bytes absent =
    elim (cases_lt (position_or_len p bytes) (length bytes)) [
      | inl found ↦ absurd (let there : position p bytes ≡ Some (position_or_len p bytes) = cond-true _ _ _ (lt-ltb _ _ found) in cc)
      | inr past ↦ All-from_get_or (λ byte. p byte ≡ false) bytes 0 (λ k h. fails_before_first p bytes k 0 (omega arith))
    ]

-- a cut leaves fewer bytes
pub length-after : {p : ℕ → Bool} {bytes before after : List ℕ} → IsCut p bytes before after → length after < length bytes
length-after {p} {bytes} {before} {after} cut =
    let whole : length bytes ≡ length before + length (cut.stop ∷ after) = ap length cut.whole ∙ length-append before (cut.stop ∷ after) in
    omega arith

-- bytes are cut, or none of them passes
pub cut_or_whole : (p : ℕ → Bool) (bytes : List ℕ)
    → ((before : List ℕ) × (after : List ℕ) × IsCut p bytes before after) ⊎ All (λ byte. p byte ≡ false) bytes
cut_or_whole p [] = inr (All-nil (λ b. p b ≡ false))
cut_or_whole p (byte ∷ bytes) =
    elim (cases_Bool (p byte)) [
      | inl stops ↦ inl ([], bytes, record { stop = byte; whole = refl; none_before = All-nil (λ b. p b ≡ false); passes = stops })
      | inr goes_on ↦ elim (cut_or_whole p bytes) [
        | inl more ↦ inl (
          byte ∷ more.0,
          more.1,
          record {
            stop = more.2.stop;
            whole = ap (λ others. byte ∷ others) more.2.whole;
            none_before = All-cons (λ b. p b ≡ false) byte more.0 goes_on more.2.none_before;
            passes = more.2.passes;
          },
        )
        | inr none ↦ inr (All-cons (λ b. p b ≡ false) byte bytes goes_on none)
      ]
    ]

-- what holds of no bytes, of bytes of which none passes, and of bytes that are cut where it holds of those after the cut, holds of all
by_cuts-within : (p : ℕ → Bool) (P : List ℕ → Type 0) → P []
    → ((bytes : List ℕ) → 0 < length bytes → All (λ byte. p byte ≡ false) bytes → P bytes)
    → ((bytes before after : List ℕ) → IsCut p bytes before after → P after → P bytes)
    → (most : ℕ) (bytes : List ℕ) → length bytes ≤ most → P bytes
by_cuts-within p P empty whole cut most [] h = empty
by_cuts-within p P empty whole cut zero (byte ∷ bytes) h = absurd (omega arith)
by_cuts-within p P empty whole cut (suc most) (byte ∷ bytes) h =
    elim (cut_or_whole p (byte ∷ bytes)) [
      | inl parts ↦
          let shorter : length parts.1 ≤ most = omega (arith, length-after parts.2) in
          cut (byte ∷ bytes) parts.0 parts.1 parts.2 (by_cuts-within p P empty whole cut most parts.1 shorter)
      | inr none ↦ whole (byte ∷ bytes) (omega arith) none
    ]

pub by_cuts : (p : ℕ → Bool) (P : List ℕ → Type 0) → P []
    → ((bytes : List ℕ) → 0 < length bytes → All (λ byte. p byte ≡ false) bytes → P bytes)
    → ((bytes before after : List ℕ) → IsCut p bytes before after → P after → P bytes) → (bytes : List ℕ) → P bytes
by_cuts p P empty whole cut bytes = by_cuts-within p P empty whole cut (length bytes) bytes (omega arith)
