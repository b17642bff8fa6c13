-- After a build the distinct present texts stand in front of what is kept, and none of the others is present. So a further build with the
-- same present texts finds none of them new, and leaves what is kept.
use Rattle.std.proofs.Common.{◌≡◌, ℕ, zero, suc, ◌-◌, ◌||◌, take, Bool, true, false, not, cond, List, [], ◌∷◌, ◌++◌, filter, length, Option, None, Some, refl, sym, ap, ◌∙◌, take-take, arith}
use Rattle.std.proofs.Math.Bool.{or-true}
use Rattle.std.proofs.lemmas.Bool.{cond-true, cond-false}
use Rattle.std.proofs.lemmas.List.Elements.{filter-append}
use Rattle.std.proofs.lemmas.List.Folds.{list_any-append}
use Rattle.group_text.specs.Texts.{GroupTextData}
use Rattle.group_text.specs.Compared.{same_text, same_text_equivalence}
use Rattle.group_text.specs.FirstTexts.{is_among, first_texts, new_texts}
use Rattle.group_analysis.specs.Using.{used_texts, room_for, within, kept_after}
use Rattle.analysis_cache.proofs.NewTextLemmas.{is_among-first}
use Rattle.analysis_cache.proofs.UseLemmas.{take_front}
use Rattle.analysis_cache.proofs.DistinctLemmas.{filter-again}

-- a test takes out nothing of a prefix of what passed it
filter-front : {X : Type 0} (p : X → Bool) (n : ℕ) (xs : List X) → filter p (take n (filter p xs)) ≡ take n (filter p xs)
filter-front p zero xs = refl
filter-front p (suc n) [] = refl
filter-front {X} p (suc n) (x ∷ xs) = by (p x) refl (filter-front p n xs) (filter-front p (suc n) xs)
  where
    by : (one : Bool) → p x ≡ one → filter p (take n (filter p xs)) ≡ take n (filter p xs) →
        filter p (take (suc n) (filter p xs)) ≡ take (suc n) (filter p xs) →
        filter p (take (suc n) (cond one (x ∷ filter p xs) (filter p xs))) ≡ take (suc n) (cond one (x ∷ filter p xs) (filter p xs))
    by true is fewer same = cond-true (p x) _ _ is ∙ ap (λ l. x ∷ l) fewer
    by false is fewer same = same

-- of texts that are all among others none is left without those
pub none_left : (others texts : List GroupTextData) → ((text : GroupTextData) → is_among texts text ≡ true → is_among others text ≡ true) →
    filter (λ text. not (is_among others text)) texts ≡ []
none_left others [] there = refl
none_left others (text ∷ texts) there =
    let here : is_among others text ≡ true = there text (ap (λ b. b || is_among texts text) (same_text_equivalence.refl text)) in
    cond-false (not (is_among others text)) _ _ (ap not here)
    ∙ none_left others texts (λ other is. there other (ap (λ b. same_text other text || b) is ∙ or-true (same_text other text)))

-- what is kept behind the present texts
abbrev pub behind : Option ℕ → List GroupTextData → List GroupTextData → List GroupTextData
behind None present kept = filter (λ text. not (is_among present text)) kept
behind (Some bound) present kept =
    take (room_for bound present - length (first_texts present)) (filter (λ text. not (is_among present text)) kept)

-- the distinct present texts stand in front
pub kept_after-front : (bound : Option ℕ) (present kept : List GroupTextData) →
    kept_after bound present kept ≡ first_texts present ++ behind bound present kept
kept_after-front None present kept = refl
kept_after-front (Some bound) present kept =
    take_front (first_texts present) (filter (λ text. not (is_among present text)) kept) (room_for bound present) (omega arith)

-- and of the others none is present
pub behind-others : (bound : Option ℕ) (present kept : List GroupTextData) →
    filter (λ text. not (is_among present text)) (behind bound present kept) ≡ behind bound present kept
behind-others None present kept = filter-again (λ text. not (is_among present text)) kept
behind-others (Some bound) present kept =
    filter-front (λ text. not (is_among present text)) (room_for bound present - length (first_texts present)) kept

-- so none is new at the next build
pub none_is_new_again : (bound : Option ℕ) (present kept : List GroupTextData) → new_texts (kept_after bound present kept) present ≡ []
none_is_new_again bound present kept =
    none_left (kept_after bound present kept) (first_texts present)
    (λ text is.
    ap (λ texts. is_among texts text) (kept_after-front bound present kept)
    ∙ list_any-append (same_text text) (first_texts present) (behind bound present kept)
    ∙ ap (λ b. b || is_among (behind bound present kept) text) is)

-- there the order stays
pub used_texts-again : (bound : Option ℕ) (present kept : List GroupTextData) →
    used_texts present (kept_after bound present kept) ≡ kept_after bound present kept
used_texts-again bound present kept =
    let others : List GroupTextData → List GroupTextData = filter (λ text. not (is_among present text)) in
    let first : List GroupTextData = first_texts present in
    ap (used_texts present) (kept_after-front bound present kept)
    ∙ ap (λ l. first ++ l)
    (filter-append (λ text. not (is_among present text)) first (behind bound present kept)
    ∙ ap (λ l. l ++ others (behind bound present kept)) (none_left present first (λ text is. sym (is_among-first present text) ∙ is))
    ∙ behind-others bound present kept)
    ∙ sym (kept_after-front bound present kept)

-- and there is room for all
within-again : (bound : Option ℕ) (present texts : List GroupTextData) → within bound present (within bound present texts) ≡ within bound present texts
within-again None present texts = refl
within-again (Some bound) present texts = take-take (room_for bound present) (room_for bound present) texts (omega arith)

-- so the same is kept again
pub kept_after-again : (bound : Option ℕ) (present kept : List GroupTextData) →
    kept_after bound present (kept_after bound present kept) ≡ kept_after bound present kept
kept_after-again bound present kept =
    ap (within bound present) (used_texts-again bound present kept)
    ∙ within-again bound present (used_texts present kept)
