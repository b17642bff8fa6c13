-- What stands at the places of a list that grew.
use Rattle.std.proofs.Common.{◌≡◌, ℕ, zero, suc, ◌⊎◌, inl, inr, List, [], ◌∷◌, ◌++◌, length, Some, refl, arith}
use Rattle.std.specs.Prelude.{slice_get}
use Rattle.std.proofs.lemmas.Option.{same_Some, none-some}

-- what has a place in a list that grew
pub slice_get-grown : {A : Type 0} (xs more : List A) (i : ℕ) (x : A) → slice_get xs i ≡ Some x → slice_get (xs ++ more) i ≡ Some x
slice_get-grown [] more i x is = absurd cc
slice_get-grown (y ∷ xs) more zero x is = is
slice_get-grown (y ∷ xs) more (suc i) x is = slice_get-grown xs more i x is

pub slice_get-last : {A : Type 0} (xs : List A) (x : A) → slice_get (xs ++ x ∷ []) (length xs) ≡ Some x
slice_get-last [] x = refl
slice_get-last (y ∷ xs) x = slice_get-last xs x

-- what stands in a list with an item more stood there, or is this item
pub pushed_at : {X : Type 0} (xs : List X) (x y : X) (k : ℕ) → slice_get (xs ++ x ∷ []) k ≡ Some y → (slice_get xs k ≡ Some y) ⊎ ((k ≡ length xs) × (x ≡ y))
pushed_at [] x y zero at = inr (refl, same_Some x y at)
pushed_at [] x y (suc k) at = absurd (none-some y at)
pushed_at (z ∷ xs) x y zero at = inl at
pushed_at (z ∷ xs) x y (suc k) at =
    elim (pushed_at xs x y k at) [
      | inl before ↦ inl before
      | inr (place, is) ↦ inr (omega (arith, place), is)
    ]
