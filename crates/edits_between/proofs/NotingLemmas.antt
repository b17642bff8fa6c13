-- Spots of two graphs that are noted one by one, unless both are alike there.
use Rattle.std.proofs.Common.{◌≡◌, ℕ, ◌+◌, ◌<◌, inl, inr, ◌⊎◌, Bool, true, List, sym, subst, arith}
use Rattle.std.specs.Prelude.{Contains}
use Rattle.std.specs.Bool.{OnTrue}
use Rattle.std.proofs.lemmas.Bool.{cases_lt, OnTrue_at}
use Rattle.edits_between.specs.declared.differing.Spot.{Spot}

-- one spot more was noted, or both are alike there
pub noted_on : (Same : ℕ → Type 0) (at : ℕ → Spot) (old new : List Spot) (count : ℕ) (alike : Bool) →
    ((k : ℕ) → k < count → Contains old (at k) ⊎ Same k) → ((spot : Spot) → Contains old spot → Contains new spot) → Contains new (at count) ⊎ (alike ≡ true) →
    OnTrue alike (Same count) → (k : ℕ) → k < count + 1 → Contains new (at k) ⊎ Same k
noted_on Same at old new count alike before kept noted same k low =
    elim (cases_lt k count) [
      | inl early ↦ elim (before k early) [
        | inl held ↦ inl (kept (at k) held)
        | inr is ↦ inr is
      ]
      | inr past ↦
          let here : k ≡ count = omega (arith, low, past) in
          subst (λ j. Contains new (at j) ⊎ Same j) (sym here) (elim noted [
            | inl held ↦ inl held
            | inr set ↦ inr (OnTrue_at set same)
          ])
    ]
