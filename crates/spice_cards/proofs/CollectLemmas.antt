-- The words of a card are taken into the pool one by one.
use Rattle.std.proofs.Common.{◌≡◌, ℕ, Bool, true, false, cond, List, [], ◌∷◌, ◌++◌, append_assoc, refl, sym, ◌∙◌, ap}
use Rattle.std.specs.List.{before_first}
use Rattle.std.proofs.lemmas.Bool.{cond-true, cond-false}
use Rattle.spice_cards.specs.CardLines.{ends_line}
use Rattle.spice_cards.specs.Pools.{PoolData, is_taken, taken, with_words}
use Rattle.spice_cards.proofs.PlaceLemmas.{before_first-more}

-- words behind words
pub with_words-more : (pool : PoolData) (words more : List (List ℕ)) → with_words (with_words pool words) more ≡ with_words pool (words ++ more)
with_words-more pool words more =
    ap (λ (pending : List (List ℕ)). record { outside = pool.outside; inside = pool.inside; pending = pending }) (append_assoc pool.pending words more)

-- a word that doesn't end its line is the first of those that count
kept_first : (word : List ℕ) (left all : List (List ℕ)) → all ≡ word ∷ left → ends_line word ≡ false →
    before_first ends_line all ≡ word ∷ before_first ends_line left
kept_first word left all first goes_on = ap (before_first ends_line) first ∙ before_first-more ends_line word left goes_on

-- one that is taken
pub with_words-taken : (plain : Bool) (pool next whole : PoolData) (word : List ℕ) (left all : List (List ℕ)) →
    all ≡ word ∷ left → ends_line word ≡ false → is_taken plain word ≡ true → next ≡ with_words pool (word ∷ []) →
    with_words pool (taken plain (before_first ends_line all)) ≡ whole →
    with_words next (taken plain (before_first ends_line left)) ≡ whole
with_words-taken plain pool next whole word left all first goes_on takes added before =
    let rest = before_first ends_line left in
    ap (λ (p : PoolData). with_words p (taken plain rest)) added ∙ with_words-more pool (word ∷ []) (taken plain rest)
    ∙ ap (with_words pool) (sym (cond-true (is_taken plain word) (word ∷ taken plain rest) (taken plain rest) takes))
    ∙ ap (λ (ws : List (List ℕ)). with_words pool (taken plain ws)) (sym (kept_first word left all first goes_on))
    ∙ before

-- one that isn't
pub with_words-passed : (plain : Bool) (pool whole : PoolData) (word : List ℕ) (left all : List (List ℕ)) →
    all ≡ word ∷ left → ends_line word ≡ false → is_taken plain word ≡ false →
    with_words pool (taken plain (before_first ends_line all)) ≡ whole →
    with_words pool (taken plain (before_first ends_line left)) ≡ whole
with_words-passed plain pool whole word left all first goes_on passes before =
    let rest = before_first ends_line left in
    ap (with_words pool) (sym (cond-false (is_taken plain word) (word ∷ taken plain rest) (taken plain rest) passes))
    ∙ ap (λ (ws : List (List ℕ)). with_words pool (taken plain ws)) (sym (kept_first word left all first goes_on))
    ∙ before
