-- Lists of numbers without repeats.
use Rattle.std.proofs.Common.{◌≡◌, ℕ, Bool, false, inl, inr, List, [], ◌∷◌, get_or, filter, nat_eq, Contains, sym}
use Rattle.std.specs.List.{IsDistinct}
use Rattle.std.proofs.lemmas.Bool.{cases_Bool, eq-eqb}
use Rattle.std.proofs.lemmas.List.Elements.{All-from_recursion, recursion_from_All}
use Rattle.std.proofs.lemmas.Map.Keys.{IsDistinct-head, IsDistinct-tail, IsDistinct-cons}
use Rattle.list_facts.proofs.ContainsLemmas.{Contains-from_filter, unlike}

-- a number in front of a list without repeats isn't in it
pub not_again : (x : ℕ) (xs : List ℕ) → IsDistinct nat_eq (x ∷ xs) → ¬ Contains xs x
not_again x xs distinct there =
    let apart = All-from_recursion (λ y. nat_eq x y ≡ false) xs (IsDistinct-head nat_eq x xs distinct) there.0 x there.1 in
    let same = eq-eqb x (get_or xs there.0 x) (sym there.2) in
    absurd (cc)

-- a list without repeats has none after a filter
pub IsDistinct-filter : (test : ℕ → Bool) (xs : List ℕ) → IsDistinct nat_eq xs → IsDistinct nat_eq (filter test xs)
IsDistinct-filter test [] distinct = distinct
IsDistinct-filter test (x ∷ xs) distinct =
    let rest = IsDistinct-filter test xs (IsDistinct-tail nat_eq x xs distinct) in
    elim (cases_Bool (test x)) [
      | inl passes ↦ rw passes
          (IsDistinct-cons nat_eq x (filter test xs)
          (recursion_from_All (λ y. nat_eq x y ≡ false) (filter test xs)
          (unlike x (filter test xs) (λ there. not_again x xs distinct (Contains-from_filter test xs x there)))) rest)
      | inr fails ↦ rw fails rest
    ]
