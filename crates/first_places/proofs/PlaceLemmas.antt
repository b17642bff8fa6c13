-- The first place that passes a test, as a list grows.
use Rattle.std.proofs.Common.{◌≡◌, ℕ, ◌+◌, ◌<◌, ◌≤◌, Bool, true, false, cond, eqb, ltb, List, [], ◌∷◌, ◌++◌, length, get_or, take, Option, None, Some, unwrap_or, position, not, inl, inr, refl, sym, ap, ◌∙◌, arith, length-append, if◌then◌else◌}
use Rattle.std.specs.List.{position_or_len}
use Rattle.std.proofs.lemmas.Bool.{cases_lt, cond-true, cond-false, lt-ltb, le-ltb, ne_eqb, eq-eqb}
use Rattle.std.proofs.lemmas.List.{take_more, length-take-le}
use Rattle.std.proofs.lemmas.List.Folds.{prefix_len-append, position_or_len_push}
use Rattle.std.proofs.lemmas.List.Sums.{prefix_len-le-length}

module _ {X : Type 0} (p : X → Bool) where
  -- what passes in a prefix of a list is found there in the whole list too
  pub position-front : (xs ys : List X) → position_or_len p xs < length xs → position p (xs ++ ys) ≡ position p xs
  position-front xs ys low =
      let first = position_or_len p xs in
      let same : position_or_len p (xs ++ ys) ≡ first =
      prefix_len-append (λ x. not (p x)) xs ys ∙ cond-false (eqb first (length xs)) _ _ (ne_eqb first (length xs) (λ e. omega arith)) in
      ap (λ k. cond (ltb k (length (xs ++ ys))) (Some k) None) same
      ∙ cond-true (ltb first (length (xs ++ ys))) (Some first) None (lt-ltb first (length (xs ++ ys)) (omega (arith, length-append xs ys)))
      ∙ sym (cond-true (ltb first (length xs)) (Some first) None (lt-ltb first (length xs) low))

  -- if none passes in it, the item behind it is found if it passes
  position-behind : (xs : List X) (x : X) (passes : Bool) → p x ≡ passes → length xs ≤ position_or_len p xs →
      position p (xs ++ x ∷ []) ≡ (if passes then Some (unwrap_or (position p xs) (length xs)) else position p xs)
  position-behind xs x passes is past = by passes is
    where
      none : position p xs ≡ None
      none = cond-false (ltb (position_or_len p xs) (length xs)) (Some (position_or_len p xs)) None (le-ltb (position_or_len p xs) (length xs) past)

      last : position_or_len p (xs ++ x ∷ []) ≡ length xs + cond (p x) 0 1
      last =
          let all : position_or_len p xs ≡ length xs = omega (arith, prefix_len-le-length (λ y. not (p y)) xs) in
          position_or_len_push p xs x ∙ cond-true (eqb (position_or_len p xs) (length xs)) _ _ (eq-eqb (position_or_len p xs) (length xs) all)

      at : (k : ℕ) → position_or_len p (xs ++ x ∷ []) ≡ k → position p (xs ++ x ∷ []) ≡ cond (ltb k (length xs + 1)) (Some k) None
      at k first = ap (λ n. cond (ltb (position_or_len p (xs ++ x ∷ [])) n) (Some (position_or_len p (xs ++ x ∷ []))) None) (length-append xs (x ∷ [])) ∙ ap (λ n. cond (ltb n (length xs + 1)) (Some n) None) first

      by : (passes : Bool) → p x ≡ passes → position p (xs ++ x ∷ []) ≡ (if passes then Some (unwrap_or (position p xs) (length xs)) else position p xs)
      by true is =
          let here : position_or_len p (xs ++ x ∷ []) ≡ length xs = last ∙ ap (λ b. length xs + cond b 0 1) is ∙ omega arith in
          at (length xs) here ∙ cond-true (ltb (length xs) (length xs + 1)) _ _ (lt-ltb (length xs) (length xs + 1) (omega arith))
          ∙ ap (λ o. Some (unwrap_or o (length xs))) (sym none)
      by false is =
          let gone : position_or_len p (xs ++ x ∷ []) ≡ length xs + 1 = last ∙ ap (λ b. length xs + cond b 0 1) is in
          at (length xs + 1) gone ∙ cond-false (ltb (length xs + 1) (length xs + 1)) _ _ (le-ltb (length xs + 1) (length xs + 1) (omega arith)) ∙ sym none

  -- of one item more: what passes before it is found, else the item if it passes
  pub position-push : (xs : List X) (x : X) →
      position p (xs ++ x ∷ []) ≡ (if p x then Some (unwrap_or (position p xs) (length xs)) else position p xs)
  position-push xs x =
      elim (cases_lt (position_or_len p xs) (length xs)) [
        | inl low ↦
            let found : position p xs ≡ Some (position_or_len p xs) = cond-true (ltb (position_or_len p xs) (length xs)) _ _ (lt-ltb (position_or_len p xs) (length xs) low) in
            position-front xs (x ∷ []) low ∙ either (p x) (position p xs) found
        | inr past ↦ position-behind xs x (p x) refl past
      ]
    where
      either : (b : Bool) (o : Option ℕ) → o ≡ Some (position_or_len p xs) → o ≡ (if b then Some (unwrap_or o (length xs)) else o)
      either true o found = found ∙ ap (λ o. Some (unwrap_or o (length xs))) (sym found)
      either false o found = refl

  -- so a place is found among one item more
  pub position-yes : (xs : List X) (k : ℕ) (d : X) → k < length xs → p (get_or xs k d) ≡ true →
      position p (take (k + 1) xs) ≡ Some (unwrap_or (position p (take k xs)) k)
  position-yes xs k d inside passes =
      let count : length (take k xs) ≡ k = length-take-le k xs (omega arith) in
      ap (position p) (take_more xs k d inside) ∙ position-push (take k xs) (get_or xs k d)
      ∙ cond-true (p (get_or xs k d)) _ _ passes ∙ ap (λ n. Some (unwrap_or (position p (take k xs)) n)) count

  -- or is found as before
  pub position-no : (xs : List X) (k : ℕ) (d : X) → k < length xs → p (get_or xs k d) ≡ false → position p (take (k + 1) xs) ≡ position p (take k xs)
  position-no xs k d inside fails =
      ap (position p) (take_more xs k d inside) ∙ position-push (take k xs) (get_or xs k d) ∙ cond-false (p (get_or xs k d)) _ _ fails
