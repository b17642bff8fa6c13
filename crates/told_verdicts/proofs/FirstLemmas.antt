-- The first entry at which two rows differ: there they do, and at no entry before it.
use Rattle.std.proofs.Common.{◌≡◌, ℕ, zero, suc, ◌<◌, Bool, true, false, List, [], ◌∷◌, Option, None, Some, MatchOption, inl, inr, refl, ap, subst, arith}
use Rattle.std.specs.Prelude.{if◌then◌else◌}
use Rattle.std.proofs.lemmas.Bool.{cases_lt}
use Rattle.std.proofs.lemmas.Option.{slice_get_within}
use Rattle.ternary.specs.declared.tern.Tern.{Tern}
use Rattle.fault_sim.specs.Traces.{differs, DifferAt, DifferFirstAt, AreAlikeRows}
use Rattle.told_verdicts.specs.Comparing.{first_entry, one_on}

-- an empty row differs from none
none_left : (strong : Bool) (bad : List Tern) (entry : ℕ) → ¬ DifferAt strong [] bad entry
none_left strong bad entry is = absurd (let low = slice_get_within [] entry is.good_value is.in_good in omega (arith, low))

-- nor does any from an empty one
none_right : (strong : Bool) (good : List Tern) (entry : ℕ) → ¬ DifferAt strong good [] entry
none_right strong good entry is = absurd (let low = slice_get_within [] entry is.bad_value is.in_bad in omega (arith, low))

module _ (strong : Bool) (value other : Tern) (good bad : List Tern) where
  -- at the first entry the first values differ
  at_front : DifferAt strong (value ∷ good) (other ∷ bad) zero → differs strong value other ≡ true
  at_front is =
      let first : is.good_value ≡ value = (let both : Some value ≡ Some is.good_value = is.in_good in cc) in
      let second : is.bad_value ≡ other = (let both : Some other ≡ Some is.bad_value = is.in_bad in cc) in
      subst (λ (one : Tern). differs strong one other ≡ true) first
      (subst (λ (one : Tern). differs strong is.good_value one ≡ true) second is.differ)

  -- at a later entry the others do
  behind : (entry : ℕ) → DifferAt strong (value ∷ good) (other ∷ bad) (suc entry) → DifferAt strong good bad entry
  behind entry is = record { good_value = is.good_value; bad_value = is.bad_value; in_good = is.in_good; in_bad = is.in_bad; differ = is.differ }

  before : (entry : ℕ) → DifferAt strong good bad entry → DifferAt strong (value ∷ good) (other ∷ bad) (suc entry)
  before entry is = record { good_value = is.good_value; bad_value = is.bad_value; in_good = is.in_good; in_bad = is.in_bad; differ = is.differ }

  -- where the first values don't differ, they are no first difference
  unlike : differs strong value other ≡ false → ¬ DifferAt strong (value ∷ good) (other ∷ bad) zero
  unlike same is = let both = at_front is in absurd (cc (both, same))

  -- the first values differ
  first_here : differs strong value other ≡ true → DifferFirstAt strong (value ∷ good) (other ∷ bad) 0
  first_here is = record {
    here = record { good_value = value; bad_value = other; in_good = refl; in_bad = refl; differ = is };
    none_before = λ entry low. absurd (omega (arith, low));
  }

  -- they don't, and no others before an entry do
  none_up_to : differs strong value other ≡ false → (entry : ℕ) → ((j : ℕ) → j < entry → ¬ DifferAt strong good bad j) →
      (k : ℕ) → k < suc entry → ¬ DifferAt strong (value ∷ good) (other ∷ bad) k
  none_up_to same entry none zero low is = unlike same is
  none_up_to same entry none (suc j) low is = none j (omega (arith, low)) (behind j is)

  alike_on : differs strong value other ≡ false → AreAlikeRows strong good bad → (entry : ℕ) → ¬ DifferAt strong (value ∷ good) (other ∷ bad) entry
  alike_on same alike zero is = unlike same is
  alike_on same alike (suc entry) is = alike entry (behind entry is)

  -- so the first difference is that of the others, one further on
  first_on : differs strong value other ≡ false → (found : Option ℕ) →
      MatchOption found (AreAlikeRows strong good bad) (DifferFirstAt strong good bad) →
      MatchOption (one_on found) (AreAlikeRows strong (value ∷ good) (other ∷ bad)) (DifferFirstAt strong (value ∷ good) (other ∷ bad))
  first_on same None alike = alike_on same alike
  first_on same (Some entry) first =
      record { here = before entry first.here; none_before = none_up_to same entry first.none_before }

-- the entry that is computed is the first at which two rows differ
pub first_entry-is : (strong : Bool) (good bad : List Tern) →
    MatchOption (first_entry strong good bad) (AreAlikeRows strong good bad) (DifferFirstAt strong good bad)
first_entry-is strong [] bad = none_left strong bad
first_entry-is strong (value ∷ good) [] = none_right strong (value ∷ good)
first_entry-is strong (value ∷ good) (other ∷ bad) = by (differs strong value other) refl (first_entry-is strong good bad)
  where
    by : (now : Bool) → differs strong value other ≡ now → MatchOption (first_entry strong good bad) (AreAlikeRows strong good bad) (DifferFirstAt strong good bad) →
        MatchOption (if now then Some 0 else one_on (first_entry strong good bad)) (AreAlikeRows strong (value ∷ good) (other ∷ bad))
        (DifferFirstAt strong (value ∷ good) (other ∷ bad))
    by true is others = first_here strong value other good bad is
    by false is others = first_on strong value other good bad is (first_entry strong good bad) others

-- there is one first entry
pub first_entry-of : (strong : Bool) (good bad : List Tern) (found : Option ℕ) →
    MatchOption found (AreAlikeRows strong good bad) (DifferFirstAt strong good bad) → found ≡ first_entry strong good bad
first_entry-of strong good bad found is = by found (first_entry strong good bad) is (first_entry-is strong good bad)
  where
    by : (one other : Option ℕ) → MatchOption one (AreAlikeRows strong good bad) (DifferFirstAt strong good bad) →
        MatchOption other (AreAlikeRows strong good bad) (DifferFirstAt strong good bad) → one ≡ other
    by None None alike still = refl
    by None (Some entry) alike first = absurd (alike entry first.here)
    by (Some entry) None first alike = absurd (alike entry first.here)
    by (Some one) (Some other) first second = elim (cases_lt one other) [
      | inl low ↦ absurd (second.none_before one low first.here)
      | inr past ↦ elim (cases_lt other one) [
        | inl low ↦ absurd (first.none_before other low second.here)
        | inr still ↦ let same : one ≡ other = omega (arith, past, still) in ap Some same
      ]
    ]
