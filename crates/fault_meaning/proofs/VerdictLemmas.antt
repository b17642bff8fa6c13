-- Each trace has a verdict beside each good one.
-- The plan: whether two values differ is decided, so a row has a first entry at which it differs or none, and so have rows.
use Rattle.std.proofs.Common.{◌≡◌, ℕ, ◌+◌, ◌<◌, ◌⊎◌, zero, suc, Bool, true, false, List, length, Option, Some, None, slice_get, inl, inr, refl, sym, ◌∙◌, subst, arith, below_more}
use Rattle.std.proofs.lemmas.Option.{slice_get_within}
use Rattle.ternary.specs.declared.tern.Tern.{Tern}
use Rattle.fault_sim.specs.declared.verdicts.Verdict.{Verdict}
use Rattle.fault_sim.specs.declared.verdicts.Verdict.TheVariants.{Detected, Refused, Possible, Undetected}
use Rattle.fault_sim.specs.Traces.{Trace, differs, DifferAt, DifferFirstAt, AreAlikeRows, IsDifference, AreAlike, FirstInRow, IsVerdict}
use Rattle.fault_sim.proofs.DifferenceLemmas.{FirstInRow-found}

-- what is decided at each number holds at a first one below a bound, or at none
first_below : (P : ℕ → Type 0) → ((k : ℕ) → P k ⊎ (¬ P k)) → (n : ℕ) →
    ((k : ℕ) × P k × ((j : ℕ) → j < k → ¬ P j)) ⊎ ((k : ℕ) → k < n → ¬ P k)
first_below P decide zero = inr (λ k low. absurd (omega arith))
first_below P decide (suc n) =
    elim (first_below P decide n) [
      | inl found ↦ inl found
      | inr none ↦ elim (decide n) [
        | inl here ↦ inl (n, here, none)
        | inr not_here ↦ inr (λ k low. below_more (λ j. ¬ P j) n none not_here k (omega arith))
      ]
    ]

-- whether two rows differ at an entry
decide_at : (strong : Bool) (good bad : List Tern) (entry : ℕ) → DifferAt strong good bad entry ⊎ (¬ DifferAt strong good bad entry)
decide_at strong good bad entry = by (slice_get good entry) (slice_get bad entry) refl refl
  where
    values : (one other : Tern) → slice_get good entry ≡ Some one → slice_get bad entry ≡ Some other → (differ : Bool) →
        differs strong one other ≡ differ → DifferAt strong good bad entry ⊎ (¬ DifferAt strong good bad entry)
    values one other in_good in_bad true is =
        inl (record { good_value = one; bad_value = other; in_good = in_good; in_bad = in_bad; differ = is })
    values one other in_good in_bad false is =
        inr (λ at.
        let first : at.good_value ≡ one = (let both = sym at.in_good ∙ in_good in cc) in
        let second : at.bad_value ≡ other = (let both = sym at.in_bad ∙ in_bad in cc) in
        let yes = at.differ in
        absurd (cc))

    by : (one other : Option Tern) → slice_get good entry ≡ one → slice_get bad entry ≡ other →
        DifferAt strong good bad entry ⊎ (¬ DifferAt strong good bad entry)
    by None other in_good in_bad = inr (λ at. let has = at.in_good in absurd (cc))
    by (Some one) None in_good in_bad = inr (λ at. let has = at.in_bad in absurd (cc))
    by (Some one) (Some other) in_good in_bad = values one other in_good in_bad (differs strong one other) refl

-- two rows differ at a first entry, or at none
rows_differ : (strong : Bool) (good bad : List Tern) → ((entry : ℕ) × DifferFirstAt strong good bad entry) ⊎ AreAlikeRows strong good bad
rows_differ strong good bad =
    elim (first_below (DifferAt strong good bad) (decide_at strong good bad) (length good)) [
      | inl found ↦ inl (found.0, record { here = found.1; none_before = found.2 })
      | inr none ↦ inr (λ entry at. none entry (slice_get_within good entry at.good_value at.in_good) at)
    ]

-- the rows at a place differ, first at some entry
record DifferInRow (strong : Bool) (good bad : List (List Tern)) (row : ℕ) : Type 0 where
  good_row : List Tern
  bad_row : List Tern
  in_good : slice_get good row ≡ Some good_row
  in_bad : slice_get bad row ≡ Some bad_row
  entry : ℕ
  first : DifferFirstAt strong good_row bad_row entry

-- where traces differ in a row, its rows do
in_row : (strong : Bool) (good bad : List (List Tern)) (row entry : ℕ) → IsDifference strong good bad row entry → DifferInRow strong good bad row
in_row strong good bad row entry is =
    elim (rows_differ strong is.good_row is.bad_row) [
      | inl found ↦ record { good_row = is.good_row; bad_row = is.bad_row; in_good = is.in_good; in_bad = is.in_bad; entry = found.0; first = found.1 }
      | inr alike ↦ absurd (alike entry is.differ)
    ]

-- whether the rows at a place differ
decide_row : (strong : Bool) (good bad : List (List Tern)) (row : ℕ) → DifferInRow strong good bad row ⊎ (¬ DifferInRow strong good bad row)
decide_row strong good bad row = by (slice_get good row) (slice_get bad row) refl refl
  where
    rows : (one other : List Tern) → slice_get good row ≡ Some one → slice_get bad row ≡ Some other →
        ((entry : ℕ) × DifferFirstAt strong one other entry) ⊎ AreAlikeRows strong one other →
        DifferInRow strong good bad row ⊎ (¬ DifferInRow strong good bad row)
    rows one other in_good in_bad (inl found) =
        inl (record { good_row = one; bad_row = other; in_good = in_good; in_bad = in_bad; entry = found.0; first = found.1 })
    rows one other in_good in_bad (inr alike) =
        inr (λ at.
        let first : at.good_row ≡ one = (let both = sym at.in_good ∙ in_good in cc) in
        let second : at.bad_row ≡ other = (let both = sym at.in_bad ∙ in_bad in cc) in
        alike at.entry
        (subst (λ values. DifferAt strong one values at.entry) second
        (subst (λ values. DifferAt strong values at.bad_row at.entry) first at.first.here)))

    by : (one other : Option (List Tern)) → slice_get good row ≡ one → slice_get bad row ≡ other →
        DifferInRow strong good bad row ⊎ (¬ DifferInRow strong good bad row)
    by None other in_good in_bad = inr (λ at. let has = at.in_good in absurd (cc))
    by (Some one) None in_good in_bad = inr (λ at. let has = at.in_bad in absurd (cc))
    by (Some one) (Some other) in_good in_bad = rows one other in_good in_bad (rows_differ strong one other)

-- traces differ at a first place, or at none
traces_differ : (strong : Bool) (good bad : List (List Tern)) →
    ((number : ℕ) × (entry : ℕ) × FirstInRow strong good bad number entry) ⊎ AreAlike strong good bad
traces_differ strong good bad =
    elim (first_below (DifferInRow strong good bad) (decide_row strong good bad) (length good)) [
      | inl found ↦
          let at = found.1 in
          inl (
            found.0 + 1,
            at.entry,
            FirstInRow-found strong good bad found.0 at.entry at.good_row at.bad_row at.in_good at.in_bad at.first
                (λ k other low is. found.2 k low (in_row strong good bad k other is)),
          )
      | inr none ↦ inr (λ row entry is. none row (slice_get_within good row is.good_row is.in_good) (in_row strong good bad row entry is))
    ]

-- each trace has a verdict
pub verdict_exists : (good bad : Trace) → (verdict : Verdict) × IsVerdict good bad verdict
verdict_exists good bad =
    elim (traces_differ true good.rows bad.rows) [
      | inl found ↦ (Detected found.0 found.1, found.2)
      | inr alike ↦ refused bad.refused refl alike
    ]
  where
    weakly : bad.refused ≡ None → AreAlike true good.rows bad.rows →
        ((number : ℕ) × (entry : ℕ) × FirstInRow false good.rows bad.rows number entry) ⊎ AreAlike false good.rows bad.rows →
        (verdict : Verdict) × IsVerdict good bad verdict
    weakly none alike (inl found) = (Possible found.0 found.1, (alike, none, found.2))
    weakly none alike (inr other) = (Undetected, (alike, none, other))

    refused : (line : Option ℕ) → bad.refused ≡ line → AreAlike true good.rows bad.rows → (verdict : Verdict) × IsVerdict good bad verdict
    refused (Some line) is alike = (Refused line, (alike, is))
    refused None is alike = weakly is alike (traces_differ false good.rows bad.rows)
