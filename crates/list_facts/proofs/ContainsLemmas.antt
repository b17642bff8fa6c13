-- What a list contains: with one item more in front, through a filter, and where it is that of the first numbers.
use Rattle.std.proofs.Common.{◌≡◌, ◌∙◌, ℕ, zero, suc, ◌+◌, ◌<◌, ◌⊎◌, inl, inr, Bool, true, false, List, [], ◌∷◌, get_or, filter, nat_eq, All, Contains, sym, ap, subst, arith}
use Rattle.std.specs.List.{range_with_len}
use Rattle.std.proofs.lemmas.Bool.{cases_Bool, eqb-true}
use Rattle.std.proofs.lemmas.List.Elements.{All-contains, All-filter, All-contains_itself, Contains-get_or, filter_passes}
use Rattle.std.proofs.lemmas.List.FromFn.{length-range_with_len, get_or-range_with_len}

-- what a list with one item in front contains is that item or in the list
pub Contains-cons_cases : {X : Type 0} (y : X) (xs : List X) (x : X) → Contains (y ∷ xs) x → (y ≡ x) ⊎ Contains xs x
Contains-cons_cases y xs x (zero, inside, is) = inl is
Contains-cons_cases y xs x (suc k, inside, is) = inr (k, omega arith, is)

-- it contains that item
pub Contains-cons_first : {X : Type 0} (y : X) (xs : List X) (x : X) → y ≡ x → Contains (y ∷ xs) x
Contains-cons_first y xs x same = (0, omega arith, same)

-- and all that the list contains
pub Contains-cons_later : {X : Type 0} (y : X) (xs : List X) (x : X) → Contains xs x → Contains (y ∷ xs) x
Contains-cons_later y xs x (k, inside, is) = (suc k, omega (arith, inside), is)

-- what a filter keeps was there
pub Contains-from_filter : {X : Type 0} (test : X → Bool) (xs : List X) (x : X) → Contains (filter test xs) x → Contains xs x
Contains-from_filter test xs x kept =
    All-contains (Contains xs) (filter test xs) x (All-filter test (Contains xs) xs (All-contains_itself xs)) kept

-- and passes its test
pub passes-from_filter : {X : Type 0} (test : X → Bool) (xs : List X) (x : X) → Contains (filter test xs) x → test x ≡ true
passes-from_filter test xs x kept = All-contains (λ y. test y ≡ true) (filter test xs) x (filter_passes test xs) kept

-- what a list of numbers doesn't contain differs from each of them
pub unlike : (x : ℕ) (ys : List ℕ) → (¬ Contains ys x) → All (λ y. nat_eq x y ≡ false) ys
unlike x ys none k d inside =
    elim (cases_Bool (nat_eq x (get_or ys k d))) [
      | inl same ↦ absurd (none (subst (Contains ys) (sym (eqb-true x (get_or ys k d) same)) (Contains-get_or ys k d inside)))
      | inr other ↦ other
    ]

-- what was there and passes is kept
pub Contains-filter : {X : Type 0} (test : X → Bool) (xs : List X) (x : X) → Contains xs x → test x ≡ true → Contains (filter test xs) x
Contains-filter test [] x there passes = absurd (omega (arith, there.1))
Contains-filter test (y ∷ xs) x there passes =
    elim (Contains-cons_cases y xs x there) [
      | inl same ↦ let here : test y ≡ true = ap test same ∙ passes in rw here (Contains-cons_first y (filter test xs) x same)
      | inr later ↦
          let rest = Contains-filter test xs x later passes in
          elim (cases_Bool (test y)) [
            | inl passed ↦ rw passed (Contains-cons_later y (filter test xs) x rest)
            | inr failed ↦ rw failed rest
          ]
    ]

-- among the first numbers, so many of them, is each that is below their count
pub Contains-range : (count number : ℕ) → number < count → Contains (range_with_len 0 count) number
Contains-range count number below =
    let same : 0 + number ≡ number = omega arith in
    (number, omega (arith, length-range_with_len 0 count), get_or-range_with_len 0 count number number below ∙ same)

-- and no other
pub below-from_range : (count number : ℕ) → Contains (range_with_len 0 count) number → number < count
below-from_range count number (k, inside, is) =
    let below : k < count = omega (arith, inside, length-range_with_len 0 count) in
    omega (arith, is, below, get_or-range_with_len 0 count k number below)
