-- What a list of images contains.
use Rattle.std.proofs.Common.{◌≡◌, ℕ, zero, suc, ◌<◌, List, [], ◌∷◌, length, get_or, map, All, Any, Contains, refl, ap, subst, ◌∙◌, arith}
use Rattle.std.proofs.lemmas.List.{get_or-map, length-map, ext_get_or}
use Rattle.std.proofs.lemmas.List.Elements.{Contains-get_or}

-- the image of each element
pub contains-map : {X Y : Type 0} (f : X → Y) (xs : List X) (k : ℕ) (x : X) → k < length xs → get_or xs k x ≡ x →
    Contains (map f xs) (f x)
contains-map f xs k x inside here = (k, omega (arith, length-map xs f), get_or-map f xs k x (f x) inside ∙ ap f here)

-- an image at a place is that of an element
from_map_at : {X : Type 0} (f : X → ℕ) (xs : List X) (n k : ℕ) → k < length (map f xs) → get_or (map f xs) k n ≡ n →
    Any (λ x. f x ≡ n) xs
from_map_at f [] n k inside here = absurd (omega arith)
from_map_at f (x ∷ xs) n zero inside here = (0, x, omega arith, refl, here)
from_map_at f (x ∷ xs) n (suc k) inside here =
    let rest = from_map_at f xs n k (omega arith) here in
    (suc rest.0, rest.1, omega (arith, rest.2), rest.3, rest.4)

-- and nothing else
pub contains-from_map : {X : Type 0} (f : X → ℕ) (xs : List X) (n : ℕ) → Contains (map f xs) n → Any (λ x. f x ≡ n) xs
contains-from_map f xs n within = from_map_at f xs n within.0 within.1 within.2

-- what holds of each element holds of the one at a place
pub at_place : {X : Type 0} (P : X → Type 0) (xs : List X) (k : ℕ) (x : X) → All P xs → k < length xs → get_or xs k x ≡ x → P x
at_place P xs k x each inside here = subst P here (each k x inside)

-- mapped there and back a list is as before, if each of its numbers is
pub map-back : {X : Type 0} (back : X → ℕ) (there : ℕ → X) (xs : List ℕ) → ((n : ℕ) → Contains xs n → back (there n) ≡ n) →
    map back (map there xs) ≡ xs
map-back back there xs same =
    let counted : length (map back (map there xs)) ≡ length xs = length-map (map there xs) back ∙ length-map xs there in
    ext_get_or 0 (map back (map there xs)) xs counted (λ i inside.
    let within : i < length xs = omega (arith, counted) in
    let first : get_or (map back (map there xs)) i 0 ≡ back (get_or (map there xs) i (there 0)) =
    get_or-map back (map there xs) i (there 0) 0 (omega (arith, length-map xs there)) in
    let second = get_or-map there xs i 0 (there 0) within in
    first ∙ (ap back second ∙ same (get_or xs i 0) (Contains-get_or xs i 0 within)))
