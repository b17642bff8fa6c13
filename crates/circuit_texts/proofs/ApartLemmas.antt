-- Two lists that have the same numbers, each of them once, are one list in two orders.
use Rattle.std.proofs.Common.{◌≡◌, ◌≢◌, ℕ, zero, suc, inl, inr, List, [], ◌∷◌, refl, sym, ◌∙◌, arith, eqb}
use Rattle.std.specs.Prelude.{Contains, nat_eq}
use Rattle.std.specs.List.{IsDistinct, dedup, remove}
use Rattle.std.specs.List.Sorted.{IsPermutation, IsStrictlyIncreasing}
use Rattle.std.proofs.lemmas.Bool.{cases_eq, eq-eqb, ne_eqb}
use Rattle.std.proofs.lemmas.Bool.Decides.{Decides-eqb}
use Rattle.std.proofs.lemmas.List.Elements.{Contains-append_right, Contains-append_cases}
use Rattle.std.proofs.lemmas.List.Kept.{AllPairs-from_increasing, Contains-dedup_nat, Contains-from_dedup}
use Rattle.std.proofs.lemmas.List.Sorted.{Contains-permutation, IsPermutation-refl, IsPermutation-sym, IsPermutation-cons, IsPermutation-trans, IsPermutation-remove}
use Rattle.std.proofs.lemmas.Map.Keys.{IsDistinct-IsPermutation, IsDistinct-tail}
use Rattle.std.proofs.lemmas.Map.Made.{AllPairs-from_IsDistinct, IsDistinct-from_AllPairs}
use Rattle.group_text.specs.Texts.{firsts}
use Rattle.group_text.proofs.LocalNodes.{Contains-firsts, Contains-from_firsts, firsts-apart}

-- equal numbers are equal the other way round
pub eqb_flips : (x y : ℕ) → nat_eq x y ≡ nat_eq y x
eqb_flips x y =
    elim (cases_eq x y) [
      | inl same ↦ eq-eqb x y same ∙ sym (eq-eqb y x (sym same))
      | inr differs ↦ ne_eqb x y differs ∙ sym (ne_eqb y x (λ same. differs (sym same)))
    ]

-- what stands in a list of one item is that item
pub only_item : (x y : ℕ) → Contains (x ∷ []) y → x ≡ y
only_item x y (zero, inside, is) = is
only_item x y (suc k, inside, is) = absurd (omega (arith, inside))

-- and that item stands in it
pub one_item : (x y : ℕ) → x ≡ y → Contains (x ∷ []) y
one_item x y is = (0, omega arith, is)

-- a number that stands once isn't among the later ones
later_apart : (x : ℕ) (xs : List ℕ) → IsDistinct nat_eq (x ∷ xs) → (y : ℕ) → Contains xs y → x ≢ y
later_apart x xs once y (k, inside, is) same =
    AllPairs-from_IsDistinct Decides-eqb (x ∷ xs) once 0 (suc k) y (omega arith) (omega (arith, inside)) (same ∙ sym is)

-- lists that have the same numbers, each once, are one list in two orders
same_numbers : (xs ys : List ℕ) → IsDistinct nat_eq xs → IsDistinct nat_eq ys → ((n : ℕ) → Contains xs n → Contains ys n) →
    ((n : ℕ) → Contains ys n → Contains xs n) → IsPermutation xs ys
same_numbers [] [] once once_too all only = IsPermutation-refl []
same_numbers [] (y ∷ ys) once once_too all only = absurd (omega (arith, (only y (0, omega arith, refl)).1))
same_numbers (x ∷ xs) ys once once_too all only =
    let there = all x (0, omega arith, refl) in
    let zs = remove ys there.0 in
    let moved : IsPermutation ys (x ∷ zs) = IsPermutation-remove ys there.0 x there.1 (sym there.2) in
    let back : IsPermutation (x ∷ zs) ys = IsPermutation-sym ys (x ∷ zs) moved in
    let others : IsDistinct nat_eq (x ∷ zs) = IsDistinct-IsPermutation nat_eq eqb_flips ys (x ∷ zs) moved once_too in
    let rest : IsPermutation xs zs =
    same_numbers xs zs (IsDistinct-tail nat_eq x xs once) (IsDistinct-tail nat_eq x zs others)
    (λ n inside.
    elim (Contains-append_cases (x ∷ []) zs n
    (Contains-permutation ys (x ∷ zs) n moved (all n (Contains-append_right (x ∷ []) xs n inside)))) [
      | inl first ↦ absurd (later_apart x xs once n inside (only_item x n first))
      | inr later ↦ later
    ])
    (λ n inside.
    elim (Contains-append_cases (x ∷ []) xs n
    (only n (Contains-permutation (x ∷ zs) ys n back (Contains-append_right (x ∷ []) zs n inside)))) [
      | inl first ↦ absurd (later_apart x zs others n inside (only_item x n first))
      | inr later ↦ later
    ]) in
    IsPermutation-trans (x ∷ xs) (x ∷ zs) ys (IsPermutation-cons x xs zs rest) back

-- numbers that ascend stand once
once_from_increasing : (xs : List ℕ) → IsStrictlyIncreasing xs → IsDistinct nat_eq xs
once_from_increasing xs ascends =
    IsDistinct-from_AllPairs Decides-eqb xs (λ i j d before inside same.
    absurd (omega (arith, AllPairs-from_increasing xs ascends i j d before inside, same)))

-- numbers that are moved so that those left of equal ones ascend are the firsts in another order
pub firsts_moved : (xs ys : List ℕ) → IsPermutation xs ys → IsStrictlyIncreasing (dedup eqb ys) → IsPermutation (firsts xs) (dedup eqb ys)
firsts_moved xs ys moved ascends =
    same_numbers (firsts xs) (dedup eqb ys) (IsDistinct-from_AllPairs Decides-eqb (firsts xs) (firsts-apart xs))
    (once_from_increasing (dedup eqb ys) ascends)
    (λ n there. Contains-dedup_nat ys n (Contains-permutation xs ys n moved (Contains-from_firsts xs n there)))
    (λ n there. Contains-firsts xs n
    (Contains-permutation ys xs n (IsPermutation-sym xs ys moved) (Contains-from_dedup eqb ys n there)))
