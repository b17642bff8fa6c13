-- Counting verdicts one after the other.
use Rattle.std.proofs.Common.{◌≡◌, ℕ, ◌+◌, Bool, true, false, cond, List, [], ◌∷◌, ◌++◌, length, refl, ap, ◌∙◌, arith}
use Rattle.std.proofs.lemmas.List.Sums.{sum_by-cons, sum_by_push}
use Rattle.fault_sim.specs.declared.verdicts.Verdict.{Verdict}
use Rattle.fault_sim.specs.declared.verdicts.Verdict.TheVariants.{Detected, Refused, Possible, Undetected}
use Rattle.fault_meaning.specs.declared.counts.VerdictCounts.{VerdictCounts}
use Rattle.fault_meaning.specs.Judging.{LineVerdict, how_many, is_detected, is_refused, is_possible, is_undetected}
use Rattle.fault_meaning.specs.Counts.{counts_of, total, with_verdict}

-- one more verdict
more : (test : Verdict → Bool) (judged : List LineVerdict) (line : ℕ) (verdict : Verdict) →
    how_many test (judged ++ record { line = line; verdict = verdict } ∷ []) ≡ how_many test judged + cond (test verdict) 1 0
more test judged line verdict = sum_by_push (λ (one : LineVerdict). cond (test one.verdict) 1 0) judged (record { line = line; verdict = verdict })

pub counts_of-more : (judged : List LineVerdict) (line : ℕ) (verdict : Verdict) →
    counts_of (judged ++ record { line = line; verdict = verdict } ∷ []) ≡ with_verdict (counts_of judged) verdict
counts_of-more judged line verdict = by verdict
  where
    made : (d p u r d' p' u' r' : ℕ) → d ≡ d' → p ≡ p' → u ≡ u' → r ≡ r' →
        (let one : VerdictCounts = record { detected = d; possible = p; undetected = u; refused = r } in
        let other : VerdictCounts = record { detected = d'; possible = p'; undetected = u'; refused = r' } in one ≡ other)
    made d p u r d' p' u' r' is_d is_p is_u is_r = cc

    same : (test : Verdict → Bool) (v : Verdict) → test v ≡ false → how_many test (judged ++ record { line = line; verdict = v } ∷ []) ≡ how_many test judged
    same test v fails = more test judged line v ∙ ap (λ (b : Bool). how_many test judged + cond b 1 0) fails ∙ (omega arith)

    next : (test : Verdict → Bool) (v : Verdict) → test v ≡ true → how_many test (judged ++ record { line = line; verdict = v } ∷ []) ≡ how_many test judged + 1
    next test v passes = more test judged line v ∙ ap (λ (b : Bool). how_many test judged + cond b 1 0) passes

    by : (v : Verdict) → counts_of (judged ++ record { line = line; verdict = v } ∷ []) ≡ with_verdict (counts_of judged) v
    by (Detected row entry) =
        let v : Verdict = Detected row entry in
        made _ _ _ _ _ _ _ _ (next is_detected v refl) (same is_possible v refl) (same is_undetected v refl) (same is_refused v refl)
    by (Refused at) =
        let v : Verdict = Refused at in
        made _ _ _ _ _ _ _ _ (same is_detected v refl) (same is_possible v refl) (same is_undetected v refl) (next is_refused v refl)
    by (Possible row entry) =
        let v : Verdict = Possible row entry in
        made _ _ _ _ _ _ _ _ (same is_detected v refl) (next is_possible v refl) (same is_undetected v refl) (same is_refused v refl)
    by Undetected = made _ _ _ _ _ _ _ _ (same is_detected Undetected refl) (same is_possible Undetected refl) (next is_undetected Undetected refl) (same is_refused Undetected refl)

-- each verdict is counted once
pub total-counts_of : (judged : List LineVerdict) → total (counts_of judged) ≡ length judged
total-counts_of [] = refl
total-counts_of (one ∷ judged) =
    let rest = total-counts_of judged in
    let first : (test : Verdict → Bool) → how_many test (one ∷ judged) ≡ cond (test one.verdict) 1 0 + how_many test judged =
    (λ test. sum_by-cons (λ (other : LineVerdict). cond (test other.verdict) 1 0) one judged) in
    let d = first is_detected in
    let p = first is_possible in
    let u = first is_undetected in
    let r = first is_refused in
    let sum : cond (is_detected one.verdict) 1 0 + cond (is_possible one.verdict) 1 0 + cond (is_undetected one.verdict) 1 0
    + cond (is_refused one.verdict) 1 0 ≡ 1 = once one.verdict in
    omega (arith, rest, d, p, u, r, sum)
  where
    once : (v : Verdict) → cond (is_detected v) 1 0 + cond (is_possible v) 1 0 + cond (is_undetected v) 1 0 + cond (is_refused v) 1 0 ≡ 1
    once (Detected row entry) = refl
    once (Refused at) = refl
    once (Possible row entry) = refl
    once Undetected = refl
