-- Lists that are made number by number.
use Rattle.std.proofs.Common.{◌≡◌, ℕ, ◌+◌, ◌<◌, Bool, true, false, ◌||◌, cond, List, [], ◌∷◌, ◌++◌, length, get_or, take, map, filter, Option, Some, None, refl, sym, ap, ap₂, ◌∙◌, arith, if◌then◌else◌}
use Rattle.std.specs.List.{range_with_len, filter_map, list_any}
use Rattle.std.specs.Option.{option_to_list}
use Rattle.std.proofs.lemmas.List.{take_more, map_push, map-id}
use Rattle.std.proofs.lemmas.List.FromFn.{map-range_with_len_more}
use Rattle.std.proofs.lemmas.List.Elements.{filter_map-append, filter-append, filter_more}
use Rattle.std.proofs.lemmas.List.Folds.{list_any-append, list_any-from_Any}
use Rattle.list_facts.proofs.ContainsLemmas.{Contains-range}

-- one number more stands at the end of a range
pub range-more : (n : ℕ) → range_with_len 0 (n + 1) ≡ range_with_len 0 n ++ n ∷ []
range-more n =
    sym (map-id (range_with_len 0 (n + 1))) ∙ map-range_with_len_more (λ k. k) 0 n n (omega arith) ∙ ap (λ xs. xs ++ n ∷ []) (map-id (range_with_len 0 n))

-- what is told of one number more stands at the end
told_of_one : {X : Type 0} (h : ℕ → Option X) (n : ℕ) → filter_map h (n ∷ []) ≡ option_to_list (h n)
told_of_one h n = by (h n)
  where
    by : {X : Type 0} (o : Option X) → filter_map (λ (_ : ℕ). o) (n ∷ []) ≡ option_to_list o
    by None = refl
    by (Some x) = refl

pub told-more : {X : Type 0} (h : ℕ → Option X) (n : ℕ) (o : Option X) (old new : List X) → old ≡ filter_map h (range_with_len 0 n) → o ≡ h n →
    new ≡ old ++ option_to_list o → new ≡ filter_map h (range_with_len 0 (n + 1))
told-more h n o old new was is grown =
    grown ∙ ap₂ (λ xs p. xs ++ option_to_list p) was is
    ∙ ap (λ xs. filter_map h (range_with_len 0 n) ++ xs) (sym (told_of_one h n))
    ∙ sym (filter_map-append h (range_with_len 0 n) (n ∷ []))
    ∙ ap (filter_map h) (sym (range-more n))

-- what passes of one number more
pub passes-more : (p : ℕ → Bool) (n : ℕ) → filter p (range_with_len 0 (n + 1)) ≡ filter p (range_with_len 0 n) ++ cond (p n) (n ∷ []) []
passes-more p n = ap (filter p) (range-more n) ∙ filter-append p (range_with_len 0 n) (n ∷ [])

-- one item more is kept, if it passes
pub kept-more : {X : Type 0} (p : X → Bool) (xs : List X) (i : ℕ) (x : X) (o : Option X) (old new : List X) → i < length xs → get_or xs i x ≡ x →
    old ≡ filter p (take i xs) → o ≡ (if p x then Some x else None) → new ≡ old ++ option_to_list o → new ≡ filter p (take (i + 1) xs)
kept-more p xs i x o old new inside here was is grown =
    grown ∙ ap₂ (λ ys q. ys ++ option_to_list q) was is
    ∙ ap (λ ys. filter p (take i xs) ++ ys) (by (p x))
    ∙ ap (λ y. filter p (take i xs) ++ cond (p y) (y ∷ []) []) (sym here)
    ∙ sym (filter_more p xs i x inside)
  where
    by : (b : Bool) → option_to_list (if b then Some x else None) ≡ cond b (x ∷ []) []
    by true = refl
    by false = refl

-- one item more is mapped
pub mapped-more : {X Y : Type 0} (f : X → Y) (xs : List X) (i : ℕ) (x : X) (y : Y) (old new : List Y) → i < length xs → get_or xs i x ≡ x →
    old ≡ map f (take i xs) → y ≡ f x → new ≡ old ++ y ∷ [] → new ≡ map f (take (i + 1) xs)
mapped-more f xs i x y old new inside here was is grown =
    grown ∙ ap₂ (λ ys z. ys ++ z ∷ []) was (is ∙ ap f (sym here))
    ∙ sym (map_push f (take i xs) (get_or xs i x)) ∙ ap (map f) (sym (take_more xs i x inside))

-- a number passes that is in the range
pub any-there : (p : ℕ → Bool) (count n : ℕ) → n < count → p n ≡ true → list_any p (range_with_len 0 count) ≡ true
any-there p count n low passes =
    let there = Contains-range count n low in
    list_any-from_Any p (range_with_len 0 count) (there.0, n, there.1, there.2, passes)

-- none passes of one number more
pub none-more : (p : ℕ → Bool) (n : ℕ) → list_any p (range_with_len 0 n) ≡ false → p n ≡ false → list_any p (range_with_len 0 (n + 1)) ≡ false
none-more p n before here =
    ap (list_any p) (range-more n) ∙ list_any-append p (range_with_len 0 n) (n ∷ []) ∙ ap₂ (λ b c. b || (c || false)) before here
