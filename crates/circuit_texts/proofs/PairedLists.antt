-- Lists whose items belong together place by place.
use Rattle.std.proofs.Common.{◌≡◌, ℕ, zero, suc, ◌+◌, ◌<◌, ◌≤◌, List, [], ◌∷◌, ◌++◌, length, map, take, get_or, Some, refl, sym, ap, ap₂, ◌∙◌, arith}
use Rattle.std.specs.Prelude.{slice_get, sum}
use Rattle.std.specs.List.{AllZip}
use Rattle.std.proofs.lemmas.List.{map-append, map_more}
use Rattle.std.proofs.lemmas.List.Sums.{sum_by-cons}

-- with the item of the next item of the other list, one item more
pub mapped_more : {Y Z : Type 0} (h : Y → Z) (zs : List Z) (z : Z) (ys : List Y) (y : Y) (i : ℕ) → i < length ys →
    y ≡ get_or ys i y → zs ≡ map h (take i ys) → z ≡ h y → zs ++ z ∷ [] ≡ map h (take (i + 1) ys)
mapped_more h zs z ys y i inside stands so_far here =
    ap₂ (λ front last. front ++ last ∷ []) so_far (here ∙ ap h stands) ∙ sym (map_more h ys i y inside)

-- with one item more, made of the next item of the other list
pub map_pushed : {X Y Z : Type 0} (f : X → Z) (h : Y → Z) (xs : List X) (x : X) (ys : List Y) (y : Y) (i : ℕ) → i < length ys →
    y ≡ get_or ys i y → map f xs ≡ map h (take i ys) → f x ≡ h y → map f (xs ++ x ∷ []) ≡ map h (take (i + 1) ys)
map_pushed f h xs x ys y i inside stands so_far here =
    map-append f xs (x ∷ []) ∙ mapped_more h (map f xs) (f x) ys y i inside stands so_far here

-- what belongs to an item of the second list stands in the first at the same place
pub partner_first : {X Y : Type 0} (R : X → Y → Type 0) (xs : List X) (ys : List Y) (k : ℕ) (y : Y) → AllZip R xs ys → slice_get ys k ≡ Some y →
    (x : X) × (slice_get xs k ≡ Some x) × R x y
partner_first R [] [] k y all stands = absurd cc
partner_first R [] (other ∷ ys) k y all stands = absurd all
partner_first R (x ∷ xs) [] k y all stands = absurd all
partner_first R (x ∷ xs) (other ∷ ys) zero y all stands = let same : other ≡ y = cc in (x, refl, rw same at all.0)
partner_first R (x ∷ xs) (other ∷ ys) (suc k) y all stands = partner_first R xs ys k y all.1 stands

-- and what belongs to an item of the first list stands in the second
pub partner_second : {X Y : Type 0} (R : X → Y → Type 0) (xs : List X) (ys : List Y) (k : ℕ) (x : X) → AllZip R xs ys → slice_get xs k ≡ Some x →
    (y : Y) × (slice_get ys k ≡ Some y) × R x y
partner_second R [] [] k x all stands = absurd cc
partner_second R [] (y ∷ ys) k x all stands = absurd all
partner_second R (other ∷ xs) [] k x all stands = absurd all
partner_second R (other ∷ xs) (y ∷ ys) zero x all stands = let same : other ≡ x = cc in (y, refl, rw same at all.0)
partner_second R (other ∷ xs) (y ∷ ys) (suc k) x all stands = partner_second R xs ys k x all.1 stands

-- the sum over the second list is at most that over the first where each term is
pub sum_within : {X Y : Type 0} (R : X → Y → Type 0) (bound : X → ℕ) (size : Y → ℕ) → ((x : X) (y : Y) → R x y → size y ≤ bound x) →
    (xs : List X) (ys : List Y) → AllZip R xs ys → sum (map size ys) ≤ sum (map bound xs)
sum_within R bound size within [] [] all = omega arith
sum_within R bound size within [] (y ∷ ys) all = absurd all
sum_within R bound size within (x ∷ xs) [] all = absurd all
sum_within R bound size within (x ∷ xs) (y ∷ ys) all =
    let first = within x y all.0 in
    let rest = sum_within R bound size within xs ys all.1 in
    omega (arith, sum_by-cons (λ n. n) (size y) (map size ys), sum_by-cons (λ n. n) (bound x) (map bound xs))
