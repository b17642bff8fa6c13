-- Ascending lists of numbers: the first is the least, what a list contains determines it, and a test picks one
-- out of the first numbers.
use Rattle.std.proofs.Common.{◌≡◌, ℕ, suc, ◌+◌, ◌<◌, ◌≤◌, inl, inr, Bool, true, List, [], ◌∷◌, get_or, filter, Contains, refl, sym, subst, ap₂, arith}
use Rattle.std.specs.List.{range_with_len}
use Rattle.std.specs.List.Sorted.{IsStrictlyIncreasing}
use Rattle.std.proofs.lemmas.List.FromFn.{length-range_with_len, get_or-range_with_len}
use Rattle.std.proofs.lemmas.List.Kept.{AllPairs-from_increasing, IsStrictlyIncreasing-filter}
use Rattle.std.proofs.lemmas.Map.Made.{Contains-tail}
use Rattle.list_facts.proofs.ContainsLemmas.{Contains-cons_cases, Contains-cons_later, Contains-filter, Contains-from_filter, passes-from_filter, Contains-range, below-from_range}

-- the first number of an ascending list is below all others
first_below : (x n : ℕ) (xs : List ℕ) → IsStrictlyIncreasing (x ∷ xs) → Contains xs n → x < n
first_below x n xs ascending within =
    let below = AllPairs-from_increasing (x ∷ xs) ascending 0 (suc within.0) n (omega arith) (omega (arith, within.1)) in
    subst (λ m. x < m) within.2 below

-- without its first number the list still ascends
rest_ascends : (x : ℕ) (xs : List ℕ) → IsStrictlyIncreasing (x ∷ xs) → IsStrictlyIncreasing xs
rest_ascends x xs ascending k inside =
    AllPairs-from_increasing (x ∷ xs) ascending (suc k) (suc (k + 1)) 0 (omega arith) (omega arith)

-- the first number of an ascending list is its least
pub first_is_least : (xs : List ℕ) (n : ℕ) → IsStrictlyIncreasing xs → Contains xs n → get_or xs 0 0 ≤ n
first_is_least [] n ascending within = absurd (omega (arith, within.1))
first_is_least (x ∷ xs) n ascending within =
    elim (Contains-cons_cases x xs n within) [
      | inl same ↦ omega (arith, same)
      | inr later ↦ omega (arith, first_below x n xs ascending later)
    ]

-- a number that isn't the first of an ascending list is among the others of another list with that first
later_too : (x y n : ℕ) (xs ys : List ℕ) → IsStrictlyIncreasing (x ∷ xs) → x ≡ y → Contains xs n →
    Contains (y ∷ ys) n → Contains ys n
later_too x y n xs ys ascending same within there =
    let above = first_below x n xs ascending within in
    Contains-tail y ys n (λ e. omega arith) there

-- ascending lists that contain the same numbers are one
pub same_ascending : (xs ys : List ℕ) → IsStrictlyIncreasing xs → IsStrictlyIncreasing ys →
    ((n : ℕ) → Contains xs n → Contains ys n) → ((n : ℕ) → Contains ys n → Contains xs n) → xs ≡ ys
same_ascending [] [] up up_too there back = refl
same_ascending [] (y ∷ ys) up up_too there back = absurd (omega (arith, (back y (0, omega arith, refl)).1))
same_ascending (x ∷ xs) [] up up_too there back = absurd (omega (arith, (there x (0, omega arith, refl)).1))
same_ascending (x ∷ xs) (y ∷ ys) up up_too there back =
    let low : y ≤ x = first_is_least (y ∷ ys) x up_too (there x (0, omega arith, refl)) in
    let high : x ≤ y = first_is_least (x ∷ xs) y up (back y (0, omega arith, refl)) in
    let same : x ≡ y = omega arith in
    let rest = same_ascending xs ys (rest_ascends x xs up) (rest_ascends y ys up_too)
    (λ n within. later_too x y n xs ys up same within (there n (Contains-cons_later x xs n within)))
    (λ n within. later_too y x n ys xs up_too (sym same) within (back n (Contains-cons_later y ys n within))) in
    ap₂ (λ z zs. z ∷ zs) same rest

-- the first numbers ascend
numbers_ascend : (count : ℕ) → IsStrictlyIncreasing (range_with_len 0 count)
numbers_ascend count k inside =
    let within : k + 1 < count = omega (arith, length-range_with_len 0 count) in
    omega (arith, get_or-range_with_len 0 count k 0 (omega arith), get_or-range_with_len 0 count (k + 1) 0 within)

-- the numbers below a bound that pass a test, in order
abbrev pub picked : (ℕ → Bool) → ℕ → List ℕ
picked test count = filter test (range_with_len 0 count)

module _ (test : ℕ → Bool) (count : ℕ) where
  -- the list contains each of them
  pub contains-picked : (n : ℕ) → n < count → test n ≡ true → Contains (picked test count) n
  contains-picked n inside passes = Contains-filter test (range_with_len 0 count) n (Contains-range count n inside) passes

  -- what it contains passes the test
  pub picked-passes : (n : ℕ) → Contains (picked test count) n → test n ≡ true
  picked-passes n within = passes-from_filter test (range_with_len 0 count) n within

  -- and is below the bound
  pub picked-below : (n : ℕ) → Contains (picked test count) n → n < count
  picked-below n within = below-from_range count n (Contains-from_filter test (range_with_len 0 count) n within)

  -- it ascends
  pub picked-ascends : IsStrictlyIncreasing (picked test count)
  picked-ascends = IsStrictlyIncreasing-filter test (range_with_len 0 count) (numbers_ascend count)
