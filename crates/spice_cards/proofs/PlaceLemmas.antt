-- What stands before and after the first element of a list that passes a test, by its place.
use Rattle.std.proofs.Common.{◌≡◌, ℕ, ◌+◌, ◌-◌, Bool, true, false, cond, ltb, List, [], ◌∷◌, length, take, drop, position, Option, Some, None, refl, sym, ◌∙◌, ap, arith, lt-ltb, not, suc, inl, inr, ◌≤◌, ◌<◌}
use Rattle.std.specs.List.{after_first, before_first, position_or_len}
use Rattle.std.proofs.lemmas.Bool.{cases_lt, cond-true}
use Rattle.std.proofs.lemmas.List.{at_drop_more, drop_all, take_all}
use Rattle.line_words.proofs.CutLemmas.{rest_from}
use Rattle.spice_cards.specs.CardLines.{head_of}
use Rattle.spice_cards.specs.Reading.{word_at}

-- the place of the first that passes is where the search for it ends
place : {X : Type 0} (p : X → Bool) (xs : List X) (at : ℕ) → position p xs ≡ Some at → position_or_len p xs ≡ at
place p xs at found = by (ltb (position_or_len p xs) (length xs)) (position_or_len p xs) found where
  by : (within : Bool) (end : ℕ) → cond within (Some end) None ≡ Some at → end ≡ at
  by true end some = cc
  by false end some = absurd (cc)

-- if none passes the search ends behind the list
none : {X : Type 0} (p : X → Bool) (xs : List X) → position p xs ≡ None → length xs ≤ position_or_len p xs
none p xs absent =
    elim (cases_lt (position_or_len p xs) (length xs)) [
      | inl found ↦ absurd (let there : position p xs ≡ Some (position_or_len p xs) = cond-true _ _ _ (lt-ltb _ _ found) in cc)
      | inr past ↦ past
    ]

-- what stands before the first that passes
pub before_first-at : {X : Type 0} (p : X → Bool) (xs : List X) (at : ℕ) → position p xs ≡ Some at → before_first p xs ≡ take at xs
before_first-at p xs at found = ap (λ n. take n xs) (place p xs at found)

-- all of them stand before it if none passes
pub before_first-none : {X : Type 0} (p : X → Bool) (xs : List X) → position p xs ≡ None → before_first p xs ≡ xs
before_first-none p xs absent = take_all (position_or_len p xs) xs (none p xs absent)

-- what stands after the first that passes, as the program slices it
pub after_first-at : (p : ℕ → Bool) (xs : List ℕ) (at : ℕ) → position p xs ≡ Some at
    → after_first p xs ≡ take (length xs - (at + 1)) (drop (at + 1) xs)
after_first-at p xs at found = ap (λ n. drop (n + 1) xs) (place p xs at found) ∙ sym (rest_from xs (at + 1))

-- nothing stands after it if none passes
pub after_first-none : (p : ℕ → Bool) (xs : List ℕ) → position p xs ≡ None → after_first p xs ≡ []
after_first-none p xs absent = drop_all (position_or_len p xs + 1) xs (let past = none p xs absent in omega arith)

-- nothing of a list whose first element passes stands before it
pub before_first-stop : {X : Type 0} (p : X → Bool) (x : X) (xs : List X) → p x ≡ true → before_first p (x ∷ xs) ≡ []
before_first-stop p x xs passes = by (p x) passes where
  by : (stops : Bool) → stops ≡ true → take (cond (not stops) (1 + position_or_len p xs) 0) (x ∷ xs) ≡ []
  by true is = refl
  by false is = absurd (cc)

-- an element that doesn't pass stands before the first that does
pub before_first-more : {X : Type 0} (p : X → Bool) (x : X) (xs : List X) → p x ≡ false → before_first p (x ∷ xs) ≡ x ∷ before_first p xs
before_first-more p x xs passes =
    ap (λ stops. take (cond (not stops) (1 + position_or_len p xs) 0) (x ∷ xs)) passes
    ∙ ap (λ n. take n (x ∷ xs)) (one_more (position_or_len p xs))
  where
    one_more : (n : ℕ) → 1 + n ≡ suc n
    one_more n = omega arith

-- ---- words by their places

-- the words that are left at a place begin with the one there
pub left-first : (words : List (List ℕ)) (place : ℕ) → place < length words → drop place words ≡ word_at words place ∷ drop (place + 1) words
left-first words place low =
    let first = at_drop_more (λ (ws : List (List ℕ)). ws) words place [] low in
    first ∙ ap (λ (word : List ℕ). word ∷ drop (place + 1) words) (sym (ap head_of first))

-- they end behind a word that doesn't pass
pub end-later : (p : List ℕ → Bool) (words : List (List ℕ)) (place : ℕ) → place < length words → p (word_at words place) ≡ false →
    place + position_or_len p (drop place words) ≡ position_or_len p words →
    place + 1 + position_or_len p (drop (place + 1) words) ≡ position_or_len p words
end-later p words place low goes_on seen =
    let one_more : position_or_len p (drop place words) ≡ 1 + position_or_len p (drop (place + 1) words) =
    ap (position_or_len p) (left-first words place low)
    ∙ ap (λ (passes : Bool). cond (not passes) (1 + position_or_len p (drop (place + 1) words)) 0) goes_on in
    omega (arith, one_more, seen)
