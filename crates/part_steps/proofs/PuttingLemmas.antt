-- What is put in places of a list.
use Rattle.std.proofs.Common.{◌≡◌, ◌≢◌, ℕ, zero, suc, ◌+◌, ◌<◌, inl, inr, List, [], ◌∷◌, ◌++◌, length, take, get_or, Some, refl, sym, ap, subst, ◌∙◌, arith}
use Rattle.std.specs.Prelude.{Contains, slice_set, slice_get}
use Rattle.std.proofs.lemmas.Bool.{cases_eq}
use Rattle.std.proofs.lemmas.List.{length-set, take_more, length-take-le}
use Rattle.std.proofs.lemmas.List.Elements.{Contains-push, Contains-push_cases, Contains-append_left}
use Rattle.list_facts.proofs.PlaceLemmas.{slice_get-grown, slice_get-last}
use Rattle.machine_parts.specs.Putting.{Puts}

module _ {X : Type 0} where
  pub set_here : (xs : List X) (k : ℕ) (x : X) → k < length xs → slice_get (slice_set xs k x) k ≡ Some x
  set_here [] k x inside = absurd (omega (arith, inside))
  set_here (y ∷ xs) zero x inside = refl
  set_here (y ∷ xs) (suc k) x inside = set_here xs k x (omega (arith, inside))

  pub set_other : (xs : List X) (k j : ℕ) (x : X) → j ≢ k → slice_get (slice_set xs k x) j ≡ slice_get xs j
  set_other [] k j x differs = refl
  set_other (y ∷ xs) zero zero x differs = absurd (differs refl)
  set_other (y ∷ xs) zero (suc j) x differs = refl
  set_other (y ∷ xs) (suc k) zero x differs = refl
  set_other (y ∷ xs) (suc k) (suc j) x differs = set_other xs k j x (λ same. differs (ap suc same))

  -- of two writes in one place the second stays
  pub set_twice : (xs : List X) (k : ℕ) (x y : X) → slice_set (slice_set xs k x) k y ≡ slice_set xs k y
  set_twice [] k x y = refl
  set_twice (z ∷ xs) zero x y = refl
  set_twice (z ∷ xs) (suc k) x y = ap (λ rest. z ∷ rest) (set_twice xs k x y)

  -- one item more is put in its place
  pub Puts-more : (places : List ℕ) (items old mid : List X) (i k : ℕ) (x : X) → i < length places → k ≡ get_or places i 0 → length items ≡ i →
      k < length mid → Puts (take i places) items old mid → Puts (take (i + 1) places) (items ++ x ∷ []) old (slice_set mid k x)
  Puts-more places items old mid i k x inside is counted within so_far =
      let more : take (i + 1) places ≡ take i places ++ k ∷ [] = take_more places i 0 inside ∙ ap (λ n. take i places ++ n ∷ []) (sym is) in
      let front : length (take i places) ≡ i = length-take-le i places (omega arith) in
      let last : slice_get (items ++ x ∷ []) i ≡ Some x = subst (λ n. slice_get (items ++ x ∷ []) n ≡ Some x) counted (slice_get-last items x) in
      let last_place : slice_get (take i places ++ k ∷ []) i ≡ Some k =
      subst (λ n. slice_get (take i places ++ k ∷ []) n ≡ Some k) front (slice_get-last (take i places) k) in
      subst (λ xs. Puts xs (items ++ x ∷ []) old (slice_set mid k x)) (sym more) (record {
        count = length-set mid k x ∙ so_far.count;
        put = λ j there.
            elim (cases_eq j k) [
              | inl same ↦ (
                i,
                x,
                last_place ∙ ap Some (sym same),
                last,
                ap (slice_get (slice_set mid k x)) same ∙ set_here mid k x within,
              )
              | inr differs ↦
                  elim (Contains-push_cases (take i places) k j there) [
                    | inl before ↦
                        let (n, y, place, item, put) = so_far.put j before in (
                          n,
                          y,
                          slice_get-grown (take i places) (k ∷ []) n j place,
                          slice_get-grown items (x ∷ []) n y item,
                          set_other mid k j x differs ∙ put,
                        )
                    | inr same ↦ absurd (differs (sym same))
                  ]
            ];
        stays = λ j not_there.
            let differs : j ≢ k = λ same. not_there (subst (Contains (take i places ++ k ∷ [])) (sym same) (Contains-push (take i places) k)) in
            set_other mid k j x differs ∙ so_far.stays j (λ before. not_there (Contains-append_left (take i places) (k ∷ []) j before));
      })
