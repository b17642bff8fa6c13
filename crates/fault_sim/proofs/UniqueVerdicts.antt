-- A trace has one verdict beside a good one: no two verdicts hold together, and one that tells of a difference tells of the first.
use Rattle.std.proofs.Common.{◌≡◌, ℕ, ◌+◌, Bool, true, false, List, Option, None, Some, inl, inr, refl, sym, ap, ◌∙◌, arith}
use Rattle.std.proofs.lemmas.Bool.{cases_lt}
use Rattle.ternary.specs.declared.tern.Tern.{Tern}
use Rattle.fault_sim.specs.declared.verdicts.Verdict.{Verdict}
use Rattle.fault_sim.specs.declared.verdicts.Verdict.TheVariants.{Detected, Refused, Possible, Undetected}
use Rattle.fault_sim.specs.Traces.{Trace, DifferFirst, FirstInRow, AreAlike, IsVerdict}

-- of two first places neither stands before the other, so they are one
first_unique : (strong : Bool) (good bad : List (List Tern)) (row entry other_row other_entry : ℕ) → DifferFirst strong good bad row entry →
    DifferFirst strong good bad other_row other_entry → (row ≡ other_row) × (entry ≡ other_entry)
first_unique strong good bad row entry other_row other_entry one two = elim (cases_lt row other_row) [
  | inl earlier ↦ absurd (two.none_before row entry (inl earlier) one.here)
  | inr past ↦ elim (cases_lt other_row row) [
    | inl earlier ↦ absurd (one.none_before other_row other_entry (inl earlier) two.here)
    | inr still ↦
        let same : row ≡ other_row = omega (arith, past, still) in
        elim (cases_lt entry other_entry) [
          | inl before ↦ absurd (two.none_before row entry (inr (same, before)) one.here)
          | inr beyond ↦ elim (cases_lt other_entry entry) [
            | inl before ↦ absurd (one.none_before other_row other_entry (inr (sym same, before)) two.here)
            | inr kept ↦ (same, omega (arith, beyond, kept))
          ]
        ]
  ]
]

-- so is the number of its row
in_row_unique : (strong : Bool) (good bad : List (List Tern)) (number entry other_number other_entry : ℕ) → FirstInRow strong good bad number entry →
    FirstInRow strong good bad other_number other_entry → (number ≡ other_number) × (entry ≡ other_entry)
in_row_unique strong good bad number entry other_number other_entry one two =
    let same = first_unique strong good bad one.row entry two.row other_entry one.first two.first in
    (one.numbered ∙ ap (λ row. row + 1) same.0 ∙ sym two.numbered, same.1)

-- where they differ at no place, there is no first
none_first : (strong : Bool) (good bad : List (List Tern)) (number entry : ℕ) → FirstInRow strong good bad number entry → ¬ AreAlike strong good bad
none_first strong good bad number entry first alike = alike first.row entry first.first.here

-- a line was refused, or none was
not_stopped : (found : Option ℕ) (line : ℕ) → found ≡ Some line → found ≡ None → ⊥
not_stopped found line there none = absurd (cc (there, none))

pub verdict_unique : (good bad : Trace) (verdict other : Verdict) → IsVerdict good bad verdict → IsVerdict good bad other → verdict ≡ other
verdict_unique good bad (Detected row entry) (Detected other_row other_entry) one two =
    let same = in_row_unique true good.rows bad.rows row entry other_row other_entry one two in
    ap (λ number. Detected number entry) same.0 ∙ ap (Detected other_row) same.1
verdict_unique good bad (Detected row entry) (Refused line) one two = absurd (none_first true good.rows bad.rows row entry one two.0)
verdict_unique good bad (Detected row entry) (Possible other_row other_entry) one two = absurd (none_first true good.rows bad.rows row entry one two.0)
verdict_unique good bad (Detected row entry) Undetected one two = absurd (none_first true good.rows bad.rows row entry one two.0)
verdict_unique good bad (Refused line) (Detected row entry) one two = absurd (none_first true good.rows bad.rows row entry two one.0)
verdict_unique good bad (Refused line) (Refused other) one two = ap Refused (cc (one.1, two.1))
verdict_unique good bad (Refused line) (Possible row entry) one two = absurd (not_stopped bad.refused line one.1 two.1)
verdict_unique good bad (Refused line) Undetected one two = absurd (not_stopped bad.refused line one.1 two.1)
verdict_unique good bad (Possible row entry) (Detected other_row other_entry) one two =
    absurd (none_first true good.rows bad.rows other_row other_entry two one.0)
verdict_unique good bad (Possible row entry) (Refused line) one two = absurd (not_stopped bad.refused line two.1 one.1)
verdict_unique good bad (Possible row entry) (Possible other_row other_entry) one two =
    let same = in_row_unique false good.rows bad.rows row entry other_row other_entry one.2 two.2 in
    ap (λ number. Possible number entry) same.0 ∙ ap (Possible other_row) same.1
verdict_unique good bad (Possible row entry) Undetected one two = absurd (none_first false good.rows bad.rows row entry one.2 two.2)
verdict_unique good bad Undetected (Detected row entry) one two = absurd (none_first true good.rows bad.rows row entry two one.0)
verdict_unique good bad Undetected (Refused line) one two = absurd (not_stopped bad.refused line two.1 one.1)
verdict_unique good bad Undetected (Possible row entry) one two = absurd (none_first false good.rows bad.rows row entry two.2 one.2)
verdict_unique good bad Undetected Undetected one two = refl
