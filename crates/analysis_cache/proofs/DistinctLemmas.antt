-- The distinct ones of some texts serve in their place: they have the same new texts, and once they were used the same is kept. So a caller
-- who has them need look up no text twice.
use Rattle.std.proofs.Common.{◌≡◌, ℕ, max, take, drop, Bool, true, false, not, cond, List, [], ◌∷◌, ◌++◌, filter, length, Option, None, Some, refl, sym, ap, ◌∙◌}
use Rattle.std.proofs.lemmas.Bool.{cond-true, cond-false}
use Rattle.std.proofs.lemmas.List.Elements.{filter_agree}
use Rattle.group_text.specs.Texts.{GroupTextData}
use Rattle.group_text.specs.Compared.{same_text, same_text_decides}
use Rattle.group_text.specs.FirstTexts.{is_among, first_texts, new_texts}
use Rattle.group_analysis.specs.Using.{used_texts, kept_after, cut_after}
use Rattle.analysis_cache.proofs.NewTextLemmas.{is_among-first}

module _ {X : Type 0} where
  -- two tests take out the same, whichever comes first
  filter-swap : (p q : X → Bool) (xs : List X) → filter p (filter q xs) ≡ filter q (filter p xs)
  filter-swap p q [] = refl
  filter-swap p q (x ∷ xs) = by (p x) (q x) refl refl (filter-swap p q xs)
    where
      by : (one other : Bool) → p x ≡ one → q x ≡ other → filter p (filter q xs) ≡ filter q (filter p xs) →
          filter p (cond other (x ∷ filter q xs) (filter q xs)) ≡ filter q (cond one (x ∷ filter p xs) (filter p xs))
      by true true is has rest = cond-true (p x) _ _ is ∙ ap (λ l. x ∷ l) rest ∙ sym (cond-true (q x) _ _ has)
      by true false is has rest = rest ∙ sym (cond-false (q x) _ _ has)
      by false true is has rest = cond-false (p x) _ _ is ∙ rest
      by false false is has rest = rest

  -- a test takes out no more the second time
  pub filter-again : (p : X → Bool) (xs : List X) → filter p (filter p xs) ≡ filter p xs
  filter-again p [] = refl
  filter-again p (x ∷ xs) = by (p x) refl (filter-again p xs)
    where
      by : (one : Bool) → p x ≡ one → filter p (filter p xs) ≡ filter p xs →
          filter p (cond one (x ∷ filter p xs) (filter p xs)) ≡ cond one (x ∷ filter p xs) (filter p xs)
      by true is rest = cond-true (p x) _ _ is ∙ ap (λ l. x ∷ l) rest
      by false is rest = rest

-- a test that takes out a text takes out all that are it
without_one : (p : GroupTextData → Bool) (text : GroupTextData) → p text ≡ false → (texts : List GroupTextData) →
    filter p (filter (λ other. not (same_text other text)) texts) ≡ filter p texts
without_one p text out [] = refl
without_one p text out (other ∷ texts) = by (same_text other text) refl (without_one p text out texts)
  where
    by : (same : Bool) → same_text other text ≡ same → filter p (filter (λ one. not (same_text one text)) texts) ≡ filter p texts →
        filter p (cond (not same) (other ∷ filter (λ one. not (same_text one text)) texts) (filter (λ one. not (same_text one text)) texts))
        ≡ cond (p other) (other ∷ filter p texts) (filter p texts)
    by true is rest = rest ∙ sym (cond-false (p other) _ _ (ap p ((same_text_decides other text).0 is) ∙ out))
    by false is rest = again (p other) rest
      where
        again : (b : Bool) → filter p (filter (λ one. not (same_text one text)) texts) ≡ filter p texts →
            cond b (other ∷ filter p (filter (λ one. not (same_text one text)) texts)) (filter p (filter (λ one. not (same_text one text)) texts))
            ≡ cond b (other ∷ filter p texts) (filter p texts)
        again true rest = ap (λ l. other ∷ l) rest
        again false rest = rest

-- the first appearances of what passes a test are what passes of the first appearances
pub first_texts-filter : (p : GroupTextData → Bool) (texts : List GroupTextData) → first_texts (filter p texts) ≡ filter p (first_texts texts)
first_texts-filter p [] = refl
first_texts-filter p (text ∷ texts) = by (p text) refl (first_texts-filter p texts)
  where
    by : (passes : Bool) → p text ≡ passes → first_texts (filter p texts) ≡ filter p (first_texts texts) →
        first_texts (cond passes (text ∷ filter p texts) (filter p texts))
        ≡ cond passes (text ∷ filter p (filter (λ other. not (same_text other text)) (first_texts texts)))
        (filter p (filter (λ other. not (same_text other text)) (first_texts texts)))
    by true is rest =
        ap (λ l. text ∷ filter (λ other. not (same_text other text)) l) rest
        ∙ ap (λ l. text ∷ l) (filter-swap (λ other. not (same_text other text)) p (first_texts texts))
    by false is rest = rest ∙ sym (without_one p text is (first_texts texts))

-- distinct texts are their own first appearances
pub first_texts-first : (texts : List GroupTextData) → first_texts (first_texts texts) ≡ first_texts texts
first_texts-first [] = refl
first_texts-first (text ∷ texts) =
    let others : GroupTextData → Bool = λ other. not (same_text other text) in
    ap (λ l. text ∷ l)
    (ap (filter others) (first_texts-filter others (first_texts texts))
    ∙ filter-again others (first_texts (first_texts texts))
    ∙ ap (filter others) (first_texts-first texts))

-- the distinct ones of some texts have the same new ones
pub new_texts-first : (kept texts : List GroupTextData) → new_texts kept (first_texts texts) ≡ new_texts kept texts
new_texts-first kept texts = ap (filter (λ text. not (is_among kept text))) (first_texts-first texts)

-- once they were used, the same is in front
pub used_texts-first : (present kept : List GroupTextData) → used_texts (first_texts present) kept ≡ used_texts present kept
used_texts-first present kept =
    ap (λ l. l ++ filter (λ text. not (is_among (first_texts present) text)) kept) (first_texts-first present)
    ∙ ap (λ l. first_texts present ++ l)
    (filter_agree (λ text. not (is_among (first_texts present) text)) (λ text. not (is_among present text)) (λ text. ap not (is_among-first present text)) kept)

-- the same stays
pub kept_after-first : (bound : Option ℕ) (present kept : List GroupTextData) → kept_after bound (first_texts present) kept ≡ kept_after bound present kept
kept_after-first None present kept = used_texts-first present kept
kept_after-first (Some bound) present kept =
    ap (λ first. take (max bound (length first)) (used_texts (first_texts present) kept)) (first_texts-first present)
    ∙ ap (take (max bound (length (first_texts present)))) (used_texts-first present kept)

-- and the same is cut
pub cut_after-first : (bound : Option ℕ) (present kept : List GroupTextData) → cut_after bound (first_texts present) kept ≡ cut_after bound present kept
cut_after-first None present kept = refl
cut_after-first (Some bound) present kept =
    ap (λ first. drop (max bound (length first)) (used_texts (first_texts present) kept)) (first_texts-first present)
    ∙ ap (drop (max bound (length (first_texts present)))) (used_texts-first present kept)
