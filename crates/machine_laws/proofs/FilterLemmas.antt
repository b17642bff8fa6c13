-- What tests leave of a list.
use Rattle.std.proofs.Common.{◌≡◌, zero, suc, Bool, true, false, cond, ◌&&◌, List, [], ◌∷◌, filter, refl, sym, ap, ◌∙◌, arith, true≢false}
use Rattle.std.specs.Prelude.{Contains}
use Rattle.std.proofs.lemmas.Bool.{cond-false}
use Rattle.std.proofs.lemmas.List.Elements.{Contains-append_right}

-- what is left by a test was there and passes, and what passes is left
pub filter_has : {X : Type 0} (p : X → Bool) (xs : List X) (n : X) → Contains (filter p xs) n → Contains xs n × (p n ≡ true)
filter_has p [] n there = absurd (omega (arith, there.1))
filter_has p (x ∷ xs) n there = by (filter_has p xs n) (p x) refl there
  where
    by : (Contains (filter p xs) n → Contains xs n × (p n ≡ true)) → (b : Bool) → p x ≡ b → Contains (cond b (x ∷ filter p xs) (filter p xs)) n →
        Contains (x ∷ xs) n × (p n ≡ true)
    by later true is (zero, inside, here) = ((0, omega arith, here), ap p (sym here) ∙ is)
    by later true is (suc i, inside, here) =
        let (was, passes) = later (i, omega (arith, inside), here) in
        (Contains-append_right (x ∷ []) xs n was, passes)
    by later false is there =
        let (was, passes) = later there in
        (Contains-append_right (x ∷ []) xs n was, passes)

pub filter_keeps : {X : Type 0} (p : X → Bool) (xs : List X) (n : X) → Contains xs n → p n ≡ true → Contains (filter p xs) n
filter_keeps p [] n there passes = absurd (omega (arith, there.1))
filter_keeps p (x ∷ xs) n there passes = by (λ behind. filter_keeps p xs n behind passes) (p x) refl there
  where
    by : (Contains xs n → Contains (filter p xs) n) → (b : Bool) → p x ≡ b → Contains (x ∷ xs) n → Contains (cond b (x ∷ filter p xs) (filter p xs)) n
    by later true is (zero, inside, here) = (0, omega arith, here)
    by later true is (suc i, inside, here) = Contains-append_right (x ∷ []) (filter p xs) n (later (i, omega (arith, inside), here))
    by later false is (zero, inside, here) = absurd (true≢false (sym passes ∙ (ap p (sym here) ∙ is)))
    by later false is (suc i, inside, here) = later (i, omega (arith, inside), here)

-- two tests, one after the other, are one
pub filter_both : {X : Type 0} (p q : X → Bool) (xs : List X) → filter q (filter p xs) ≡ filter (λ x. p x && q x) xs
filter_both p q [] = refl
filter_both p q (x ∷ xs) = by (filter_both p q xs) (p x)
  where
    by : filter q (filter p xs) ≡ filter (λ y. p y && q y) xs → (b : Bool) →
        filter q (cond b (x ∷ filter p xs) (filter p xs)) ≡ cond (b && q x) (x ∷ filter (λ y. p y && q y) xs) (filter (λ y. p y && q y) xs)
    by later true = ap (λ rest. cond (q x) (x ∷ rest) rest) later
    by later false = later

-- what a second test lets through of the items passes the first one: so the first takes nothing out that the second would leave
pub filter_covered : {X : Type 0} (p q : X → Bool) (xs : List X) → ((x : X) → Contains xs x → p x ≡ false → q x ≡ false) →
    filter q (filter p xs) ≡ filter q xs
filter_covered p q [] implied = refl
filter_covered p q (x ∷ xs) implied =
    by (filter_covered p q xs (λ y there fails. implied y (Contains-append_right (x ∷ []) xs y there) fails)) (p x) refl
  where
    by : filter q (filter p xs) ≡ filter q xs → (b : Bool) → p x ≡ b →
        filter q (cond b (x ∷ filter p xs) (filter p xs)) ≡ cond (q x) (x ∷ filter q xs) (filter q xs)
    by later true is = ap (λ rest. cond (q x) (x ∷ rest) rest) later
    by later false is = later ∙ sym (cond-false (q x) (x ∷ filter q xs) (filter q xs) (implied x (0, omega arith, refl) is))
