-- Whether a number is in a list.
use Rattle.std.proofs.Common.{◌≡◌, ℕ, true, false, inl, inr, ◌⊎◌, List, sym, ◌∙◌, Bool, eqb, get_or, refl, subst, eq-eqb}
use Rattle.std.specs.Prelude.{Contains}
use Rattle.std.proofs.lemmas.Bool.{cases_Bool}
use Rattle.std.specs.List.{list_any}
use Rattle.std.proofs.lemmas.Bool.Decides.{Decides-eqb}
use Rattle.std.proofs.lemmas.List.Folds.{Any-from_list_any, list_any-from_Any}

-- a number is among these
abbrev pub is_one_of : List ℕ → ℕ → Bool
is_one_of nodes n = list_any (eqb n) nodes

pub one_of-Contains : (nodes : List ℕ) (n : ℕ) → is_one_of nodes n ≡ true → Contains nodes n
one_of-Contains nodes n is =
    let (i, x, inside, here, same) = Any-from_list_any (eqb n) nodes is in
    let equal : n ≡ x = (Decides-eqb n x).0 same in
    (i, inside, subst (λ y. get_or nodes i y ≡ y) (sym equal) here)

pub one_of-from : (nodes : List ℕ) (n : ℕ) → Contains nodes n → is_one_of nodes n ≡ true
one_of-from nodes n (i, inside, here) = list_any-from_Any (eqb n) nodes (i, n, inside, here, eq-eqb n n refl)

-- a number is in a list or isn't
pub one_or_none : (xs : List ℕ) (k : ℕ) → Contains xs k ⊎ (¬ Contains xs k)
one_or_none xs k =
    elim (cases_Bool (is_one_of xs k)) [
      | inl is ↦ inl (one_of-Contains xs k is)
      | inr fails ↦ inr (λ there. let both : true ≡ false = sym (one_of-from xs k there) ∙ fails in absurd cc)
    ]
