-- Two lists as one list of pairs.
use Rattle.std.proofs.Common.{◌≡◌, ℕ, ◌+◌, ◌<◌, List, [], ◌∷◌, ◌++◌, length, take, get_or, refl, sym, ap, ◌∙◌, arith}
use Rattle.std.specs.Prelude.{zip}
use Rattle.std.specs.List.{AllZip}
use Rattle.std.proofs.lemmas.List.{take_more, length-take-le}
use Rattle.std.proofs.lemmas.Slice.Zip.{all_zipped_more}

-- with an item more at the end of each, one pair more
zip_pushed : {X Y : Type 0} (xs : List X) (ys : List Y) (x : X) (y : Y) → length xs ≡ length ys →
    zip (xs ++ x ∷ []) (ys ++ y ∷ []) ≡ zip xs ys ++ (x, y) ∷ []
zip_pushed [] [] x y as_many = refl
zip_pushed [] (other ∷ ys) x y as_many = absurd cc
zip_pushed (other ∷ xs) [] x y as_many = absurd cc
zip_pushed (one ∷ xs) (other ∷ ys) x y as_many =
    let fewer : length xs ≡ length ys = omega (arith, as_many) in
    ap (λ pairs. (one, other) ∷ pairs) (zip_pushed xs ys x y fewer)

-- what holds of the pairs so far holds with the next pair too
pub all_paired_more : {X Y Z : Type 0} (R : (X × Y) → Z → Type 0) (xs : List X) (ys : List Y) (zs : List Z) (i : ℕ) (x : X) (y : Y) (z : Z) →
    i < length xs → i ≡ length ys → x ≡ get_or xs i x → AllZip R (zip (take i xs) ys) zs → R (x, y) z →
    AllZip R (zip (take (i + 1) xs) (ys ++ y ∷ [])) (zs ++ z ∷ [])
all_paired_more R xs ys zs i x y z inside here stands so_far next =
    let as_many : length (take i xs) ≡ length ys = length-take-le i xs (omega arith) ∙ here in
    let pairs : zip (take (i + 1) xs) (ys ++ y ∷ []) ≡ zip (take i xs) ys ++ (x, y) ∷ [] =
    ap (λ front. zip front (ys ++ y ∷ [])) (take_more xs i x inside ∙ ap (λ last. take i xs ++ last ∷ []) (sym stands))
    ∙ zip_pushed (take i xs) ys x y as_many in
    rw pairs (all_zipped_more R (zip (take i xs) ys) zs (x, y) z so_far next)
