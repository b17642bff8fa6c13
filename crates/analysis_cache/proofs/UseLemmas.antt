-- Texts that are moved to the front, one after the other from the last to the first, stand in order of first appearance in front of the
-- others; and what the distinct ones of some texts do, they do.
use Rattle.std.proofs.Common.{◌≡◌, ℕ, ◌+◌, ◌-◌, ◌≤◌, Bool, true, false, not, cond, ◌||◌, List, [], ◌∷◌, ◌++◌, filter, length, take, get_or, All, Option, None, Some, refl, sym, ap, ◌∙◌, append-nil, true≢false, arith}
use Rattle.std.specs.List.{AllByRecursion, IsDistinct}
use Rattle.std.proofs.Math.Seq.{take-append-add}
use Rattle.std.proofs.lemmas.List.Elements.{filter-append}
use Rattle.std.proofs.lemmas.List.Folds.{list_any-append}
use Rattle.std.proofs.lemmas.Bool.{cond-true, cond-false}
use Rattle.group_text.specs.Texts.{GroupTextData}
use Rattle.group_text.specs.Compared.{same_text, same_text_equivalence}
use Rattle.group_text.specs.FirstTexts.{is_among, first_texts, new_texts}
use Rattle.group_analysis.specs.Using.{used_texts, kept_after, room_for, to_front}
use Rattle.analysis_cache.specs.Cutting.{StartsWith}
use Rattle.analysis_cache.proofs.NewTextLemmas.{or_else, filter_every, filter_neither, list_any-filter, alike_text, is_among-first, is_among-themselves, first_texts-append}

-- each of these texts moved to the front, the last one first
abbrev pub all_to_front : List GroupTextData → List GroupTextData → List GroupTextData
all_to_front [] kept = kept
all_to_front (text ∷ texts) kept = to_front text (all_to_front texts kept)

-- one text more goes to the front of those behind it
pub all_to_front-next : (text : GroupTextData) (texts all kept before after : List GroupTextData) → all ≡ text ∷ texts →
    before ≡ all_to_front texts kept → after ≡ to_front text before → after ≡ all_to_front all kept
all_to_front-next text texts all kept before after all_are so_far next =
    next ∙ (ap (to_front text) so_far ∙ ap (λ list. all_to_front list kept) (sym all_are))

-- so the distinct ones come first, in order of first appearance, and the others behind them in their order
pub all_to_front-used : (present kept : List GroupTextData) → all_to_front present kept ≡ used_texts present kept
all_to_front-used [] kept = sym (filter_every (λ text. true) (λ text. refl) kept)
all_to_front-used (text ∷ present) kept =
    let others : GroupTextData → Bool = λ other. not (same_text other text) in
    let behind : List GroupTextData = filter (λ other. not (is_among present other)) kept in
    ap (to_front text) (all_to_front-used present kept)
    ∙ ap (λ l. text ∷ l)
    (filter-append others (first_texts present) behind
    ∙ ap (λ l. filter others (first_texts present) ++ l) (filter_neither (λ other. same_text other text) (is_among present) kept))

-- a text is kept once the present ones were used exactly if it is present or was kept
pub is_among-used : (present kept : List GroupTextData) (text : GroupTextData) →
    is_among (used_texts present kept) text ≡ (is_among present text || is_among kept text)
is_among-used present kept text =
    list_any-append (same_text text) (first_texts present) (filter (λ other. not (is_among present other)) kept)
    ∙ ap (λ b. b || is_among (filter (λ other. not (is_among present other)) kept) text) (is_among-first present text)
    ∙ ap (λ b. is_among present text || b)
    (list_any-filter (same_text text) (λ other. not (is_among present other)) (not (is_among present text))
    (alike_text (λ other. not (is_among present other)) text) kept)
    ∙ or_else (is_among present text) (is_among kept text)

-- the present texts stand in front
pub StartsWith-used : (present kept texts : List GroupTextData) → texts ≡ used_texts present kept → StartsWith (first_texts present) texts
StartsWith-used present kept texts are = record { others = filter (λ text. not (is_among present text)) kept; are = are }

-- where new texts stood behind, they are among those in front
pub used_texts-fresh : (present kept : List GroupTextData) → used_texts present (kept ++ new_texts kept present) ≡ used_texts present kept
used_texts-fresh present kept =
    ap (λ l. first_texts present ++ l)
    (filter-append (λ text. not (is_among present text)) kept (new_texts kept present)
    ∙ ap (λ l. filter (λ text. not (is_among present text)) kept ++ l) (none present (first_texts present) (λ text is. sym (is_among-first present text) ∙ is))
    ∙ append-nil (filter (λ text. not (is_among present text)) kept))
  where
    -- of texts that are present none is left
    none : (present some : List GroupTextData) → ((text : GroupTextData) → is_among some text ≡ true → is_among present text ≡ true) →
        filter (λ text. not (is_among present text)) (filter (λ text. not (is_among kept text)) some) ≡ []
    none present [] there = refl
    none present (text ∷ some) there =
        let here : is_among present text ≡ true = there text (ap (λ b. b || is_among some text) (same_text_equivalence.refl text)) in
        let rest = none present some (λ other is. there other (ap (λ b. same_text other text || b) is ∙ either (same_text other text))) in
        by (not (is_among kept text)) here rest
      where
        either : (b : Bool) → (b || true) ≡ true
        either true = refl
        either false = refl

        by : (stays : Bool) → is_among present text ≡ true →
            filter (λ one. not (is_among present one)) (filter (λ one. not (is_among kept one)) some) ≡ [] →
            filter (λ one. not (is_among present one)) (cond stays (text ∷ filter (λ one. not (is_among kept one)) some) (filter (λ one. not (is_among kept one)) some)) ≡ []
        by true here rest = cond-false (not (is_among present text)) _ _ (ap not here) ∙ rest
        by false here rest = rest

-- a text that stands before others is none of them, if all are apart
pub apart_from : (front : List GroupTextData) (next : GroupTextData) (back : List GroupTextData) (text : GroupTextData) →
    IsDistinct same_text (front ++ next ∷ back) → is_among front text ≡ true → same_text text next ≡ false
unfolding IsDistinct
apart_from [] next back text apart is = absurd (true≢false (sym is))
apart_from (first ∷ front) next back text apart is =
    by (same_text text first) refl is (apart_from front next back text apart.1)
  where
    at : (front : List GroupTextData) → AllByRecursion (λ other. same_text first other ≡ false) (front ++ next ∷ back) → same_text first next ≡ false
    at [] all = all.0
    at (one ∷ front) all = at front all.1

    by : (same : Bool) → same_text text first ≡ same → (same || is_among front text) ≡ true →
        (is_among front text ≡ true → same_text text next ≡ false) → same_text text next ≡ false
    by true e some rest = same_text_equivalence.congr text first next e ∙ at front apart.0
    by false e some rest = rest some

-- the first appearances of a front and of one text more
pub first_texts-known : (front : List GroupTextData) (text : GroupTextData) → is_among front text ≡ true →
    first_texts (front ++ text ∷ []) ≡ first_texts front
first_texts-known front text is =
    first_texts-append front (text ∷ [])
    ∙ ap (λ l. first_texts front ++ l) (cond-false (not (is_among front text)) (text ∷ []) [] (ap not is))
    ∙ append-nil (first_texts front)

pub first_texts-new : (front : List GroupTextData) (text : GroupTextData) (back : List GroupTextData) → is_among front text ≡ false →
    first_texts (front ++ text ∷ back)
    ≡ first_texts front ++ text ∷ filter (λ other. not (is_among front other)) (filter (λ other. not (same_text other text)) (first_texts back))
first_texts-new front text back is =
    first_texts-append front (text ∷ back)
    ∙ ap (λ l. first_texts front ++ l) (cond-true (not (is_among front text)) _ _ (ap not is))

-- a list's front stays if there is room for it
pub take_front : {X : Type 0} (front back : List X) (n : ℕ) → length front ≤ n → take n (front ++ back) ≡ front ++ take (n - length front) back
take_front front back n room =
    let whole : n ≡ length front + (n - length front) = omega arith in
    ap (λ k. take k (front ++ back)) whole ∙ take-append-add front back (n - length front)

-- each present text is kept, whatever the bound
pub each_present : (bound : Option ℕ) (present kept : List GroupTextData) → All (λ text. is_among (kept_after bound present kept) text ≡ true) present
each_present None present kept = λ k d inside.
    let text = get_or present k d in
    is_among-used present kept text
    ∙ ap (λ b. b || is_among kept text) (is_among-themselves present k d inside)
each_present (Some bound) present kept = λ k d inside.
    let text = get_or present k d in
    let first = first_texts present in
    let rest : List GroupTextData = filter (λ other. not (is_among present other)) kept in
    ap (λ texts. is_among texts text) (take_front first rest (room_for bound present) (omega arith))
    ∙ list_any-append (same_text text) first (take (room_for bound present - length first) rest)
    ∙ ap (λ b. b || is_among (take (room_for bound present - length first) rest) text) (is_among-first present text ∙ is_among-themselves present k d inside)
