-- Numbers of which none stands twice: they differ wherever they stand, in front, after an exchange and in another order.
use Rattle.std.specs.List.{swap}
use Rattle.std.proofs.lemmas.List.Edits.{Swapped, swapped_from_swap, length-swap}
use Rattle.machine_parts.specs.Marking.{AreOnce}
use Rattle.std.proofs.lemmas.List.Sorted.{IsPermutation-keeps}
use Rattle.std.proofs.lemmas.Bool.{cases_eq, cases_lt}
use Rattle.std.specs.List.Sorted.{IsPermutation}
use Rattle.std.proofs.Common.{◌≡◌, ◌≢◌, ℕ, ◌<◌, List, length, take, sym, ap, ◌∙◌, arith, inl, inr, ◌⊎◌, refl}
use Rattle.std.specs.Prelude.{slice_index}
use Rattle.std.proofs.lemmas.List.{length-take, get_or-take}

-- numbers that stand once differ wherever they stand
once_apart : (xs : List ℕ) → AreOnce xs → (p q : ℕ) → p ≢ q → p < length xs → q < length xs → slice_index xs p ≢ slice_index xs q
once_apart xs once p q apart p_in q_in same =
    elim (cases_lt p q) [
      | inl less ↦ once p q less q_in same
      | inr more ↦ once q p (omega (arith, more, apart)) p_in (sym same)
    ]

-- the front of numbers that stand once
pub AreOnce-take : (border : ℕ) (xs : List ℕ) → AreOnce xs → AreOnce (take border xs)
AreOnce-take border xs once i j less inside same =
    let count = length-take border xs in
    let first = get_or-take border xs i 0 (omega (arith, less, inside, count)) in
    let second = get_or-take border xs j 0 (omega (arith, inside, count)) in
    once i j less (omega (arith, inside, count)) (sym first ∙ (same ∙ second))

-- where what stands at a place after an exchange stood before it
from_place : (i j p : ℕ) → (k : ℕ) × (((p ≡ i) × (k ≡ j)) ⊎ ((p ≢ i) × (((p ≡ j) × (k ≡ i)) ⊎ ((p ≢ j) × (k ≡ p)))))
from_place i j p = elim (cases_eq p i) [
  | inl first ↦ (j, inl (first, refl))
  | inr other ↦ elim (cases_eq p j) [
    | inl second ↦ (i, inr (other, inl (second, refl)))
    | inr neither ↦ (p, inr (other, inr (neither, refl)))
  ]
]

module _ (xs : List ℕ) (i j : ℕ) (i_in : i < length xs) (j_in : j < length xs) where
  swaps : Swapped (λ n. slice_index xs n) (λ n. slice_index (swap xs i j) n) i j
  swaps = swapped_from_swap xs (swap xs i j) i j 0 i_in j_in refl

  value_from : (p : ℕ) → p < length xs → (slice_index (swap xs i j) p ≡ slice_index xs (from_place i j p).0) × ((from_place i j p).0 < length xs)
  value_from p p_in = elim (from_place i j p).1 [
    | inl first ↦ (ap (λ n. slice_index (swap xs i j) n) first.0 ∙ (swaps.0 ∙ ap (λ n. slice_index xs n) (sym first.1)), omega (arith, first.1, j_in))
    | inr (other, inl second) ↦ (ap (λ n. slice_index (swap xs i j) n) second.0 ∙ (swaps.1 ∙ ap (λ n. slice_index xs n) (sym second.1)), omega (arith, second.1, i_in))
    | inr (other, inr neither) ↦ (swaps.2 p other neither.0 ∙ ap (λ n. slice_index xs n) (sym neither.1), omega (arith, neither.1, p_in))
  ]

  from_apart : (p q : ℕ) → p ≢ q → (from_place i j p).0 ≢ (from_place i j q).0
  from_apart p q apart same = elim (from_place i j p).1 [
    | inl one ↦ elim (from_place i j q).1 [
      | inl two ↦ apart (one.0 ∙ sym two.0)
      | inr (o, inl two) ↦ apart (one.0 ∙ (sym two.1 ∙ (sym same ∙ (one.1 ∙ sym two.0))))
      | inr (o, inr two) ↦ two.0 (sym two.1 ∙ (sym same ∙ one.1))
    ]
    | inr (o, inl one) ↦ elim (from_place i j q).1 [
      | inl two ↦ apart (one.0 ∙ (sym two.1 ∙ (sym same ∙ (one.1 ∙ sym two.0))))
      | inr (u, inl two) ↦ apart (one.0 ∙ sym two.0)
      | inr (u, inr two) ↦ u (sym two.1 ∙ (sym same ∙ one.1))
    ]
    | inr (o, inr one) ↦ elim (from_place i j q).1 [
      | inl two ↦ one.0 (sym one.1 ∙ (same ∙ two.1))
      | inr (u, inl two) ↦ o (sym one.1 ∙ (same ∙ two.1))
      | inr (u, inr two) ↦ apart (sym one.1 ∙ (same ∙ two.1))
    ]
  ]

  once_swapped : AreOnce xs → AreOnce (swap xs i j)
  once_swapped once p q less q_in same =
      let length_is = length-swap xs i j in
      let one = value_from p (omega (arith, less, q_in, length_is)) in
      let two = value_from q (omega (arith, q_in, length_is)) in
      once_apart xs once (from_place i j p).0 (from_place i j q).0 (from_apart p q (omega (arith, less))) one.1 two.1 (sym one.0 ∙ (same ∙ two.0))

-- so they do in another order
pub once_permuted : (xs ys : List ℕ) → IsPermutation xs ys → AreOnce xs → AreOnce ys
once_permuted xs ys permutes once =
    IsPermutation-keeps xs AreOnce once (λ l i j i_in j_in still. once_swapped l i j i_in j_in still) ys permutes
