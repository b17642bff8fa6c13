-- What is promised of the order of what is kept, if it isn't brought about at each build: which texts are used, one list of them after another;
-- how what is new stands behind; and what a cut leaves, however the present texts were listed.
use Rattle.std.proofs.Common.{◌≡◌, ℕ, ◌-◌, ◌≤◌, max, take, Bool, true, false, not, cond, ◌&&◌, ◌||◌, List, [], ◌∷◌, ◌++◌, filter, length, All, Option, None, Some, refl, sym, ap, ◌∙◌, append_assoc, append-nil, length-append, true≢false, arith}
use Rattle.std.specs.List.{IsDistinct, AllByRecursion}
use Rattle.std.proofs.lemmas.Bool.{cond-true, and_from}
use Rattle.std.proofs.lemmas.List.{take_all}
use Rattle.std.proofs.lemmas.List.Elements.{All-head, All-tail, All-weaker, All-filter, filter-append, filter_agree}
use Rattle.std.proofs.lemmas.List.Filters.{length-filter_both}
use Rattle.std.proofs.lemmas.Map.Made.{length-from_same_keys, length-le_from_is_member}
use Rattle.group_text.specs.Texts.{GroupTextData}
use Rattle.group_text.specs.Compared.{same_text, same_text_decides, same_text_equivalence}
use Rattle.group_text.specs.FirstTexts.{is_among, first_texts, new_texts}
use Rattle.group_analysis.specs.Using.{used_texts, room_for, within, kept_after}
use Rattle.analysis_cache.proofs.NewTextLemmas.{or_else, filter_every, filter_neither, list_any-filter, alike_text, is_among-first}
use Rattle.analysis_cache.proofs.UseLemmas.{is_among-used}
use Rattle.analysis_cache.proofs.DistinctLemmas.{filter-again}
use Rattle.analysis_cache.proofs.SettleLemmas.{none_left, behind, kept_after-front, behind-others, used_texts-again}

-- the texts that aren't among these
abbrev pub without : List GroupTextData → List GroupTextData → List GroupTextData
without present kept = filter (λ text. not (is_among present text)) kept

-- what holds of each of some texts holds of what is among them
pub among_all : (test : GroupTextData → Bool) (answer : Bool) (texts : List GroupTextData) → All (λ text. test text ≡ answer) texts →
    (text : GroupTextData) → is_among texts text ≡ true → test text ≡ answer
among_all test answer [] all text is = absurd (true≢false (sym is))
among_all test answer (first ∷ texts) all text is =
    by (same_text text first) refl is (among_all test answer texts (All-tail (λ one. test one ≡ answer) first texts all) text)
  where
    by : (same : Bool) → same_text text first ≡ same → (same || is_among texts text) ≡ true → (is_among texts text ≡ true → test text ≡ answer) →
        test text ≡ answer
    by true same some rest = ap test ((same_text_decides text first).0 same) ∙ All-head (λ one. test one ≡ answer) first texts all
    by false same some rest = rest some

-- with no present text what is kept stays as it is
pub used_texts-none : (kept : List GroupTextData) → used_texts [] kept ≡ kept
used_texts-none kept = filter_every (λ text. true) (λ text. refl) kept

-- texts that were used stand in front already
pub used_texts-used : (present kept : List GroupTextData) → used_texts present (used_texts present kept) ≡ used_texts present kept
used_texts-used = used_texts-again None

-- and a cut leaves them there
pub used_texts-kept_after : (bound : Option ℕ) (present kept : List GroupTextData) →
    used_texts present (kept_after bound present kept) ≡ kept_after bound present kept
used_texts-kept_after = used_texts-again

-- the texts of a last build that aren't present any more: where those are used before the present ones, it is as if all of the last were
pub used-same_left : (last leavers present kept : List GroupTextData) →
    first_texts leavers ≡ filter (λ text. not (is_among present text)) (first_texts last) →
    used_texts present (used_texts leavers kept) ≡ used_texts present (used_texts last kept)
used-same_left last leavers present kept left =
    ap (λ l. first_texts present ++ l)
    (filter-append (λ text. not (is_among present text)) (first_texts leavers) (without leavers kept)
    ∙ ap (λ l. l ++ without present (without leavers kept)) front
    ∙ ap (λ l. without present (first_texts last) ++ l) back
    ∙ sym (filter-append (λ text. not (is_among present text)) (first_texts last) (without last kept)))
  where
    front : without present (first_texts leavers) ≡ without present (first_texts last)
    front = ap (without present) left ∙ filter-again (λ text. not (is_among present text)) (first_texts last)

    among : (text : GroupTextData) → is_among leavers text ≡ (not (is_among present text) && is_among last text)
    among text =
        sym (is_among-first leavers text)
        ∙ ap (λ l. is_among l text) left
        ∙ list_any-filter (same_text text) (λ other. not (is_among present other)) (not (is_among present text))
        (alike_text (λ other. not (is_among present other)) text) (first_texts last)
        ∙ ap (λ b. not (is_among present text) && b) (is_among-first last text)

    back : without present (without leavers kept) ≡ without present (without last kept)
    back =
        filter_neither (is_among present) (is_among leavers) kept
        ∙ filter_agree (λ text. not (is_among present text || is_among leavers text)) (λ text. not (is_among present text || is_among last text))
        (λ text. ap not (ap (λ b. is_among present text || b) (among text) ∙ or_else (is_among present text) (is_among last text))) kept
        ∙ sym (filter_neither (is_among present) (is_among last) kept)

-- what stands behind what is kept stays behind it, but for what was used of it
pub used-append : (last kept more : List GroupTextData) →
    used_texts last (kept ++ more) ≡ used_texts last kept ++ filter (λ text. not (is_among last text)) more
used-append last kept more =
    ap (λ l. first_texts last ++ l) (filter-append (λ text. not (is_among last text)) kept more)
    ∙ sym (append_assoc (first_texts last) (without last kept) (without last more))

-- a test that each of some texts passes leaves them
all_pass : (test : GroupTextData → Bool) (texts : List GroupTextData) → All (λ text. test text ≡ true) texts → filter test texts ≡ texts
all_pass test [] all = refl
all_pass test (text ∷ texts) all =
    cond-true (test text) _ _ (All-head (λ one. test one ≡ true) text texts all)
    ∙ ap (λ l. text ∷ l) (all_pass test texts (All-tail (λ one. test one ≡ true) text texts all))

-- and where the last texts were kept, and none of those behind was, it is all of that
pub used-append_new : (last kept more : List GroupTextData) → All (λ text. is_among kept text ≡ true) last →
    All (λ text. is_among kept text ≡ false) more → used_texts last (kept ++ more) ≡ used_texts last kept ++ more
used-append_new last kept more there new =
    used-append last kept more
    ∙ ap (λ l. used_texts last kept ++ l)
    (all_pass (λ text. not (is_among last text)) more
    (All-weaker (λ text. is_among kept text ≡ false) (λ text. not (is_among last text) ≡ true) (λ text none. by text none (is_among last text) refl) more new))
  where
    by : (text : GroupTextData) → is_among kept text ≡ false → (used : Bool) → is_among last text ≡ used → not (is_among last text) ≡ true
    by text none true is = absurd (true≢false (sym (among_all (is_among kept) true last there text is) ∙ none))
    by text none false is = ap not is

-- of texts that are all present none is left without the present ones
without-present : (present texts : List GroupTextData) → All (λ text. is_among present text ≡ true) texts → without present texts ≡ []
without-present present texts all = none_left present texts (among_all (is_among present) true texts all)

-- what is new of the present texts stands behind what was kept: it may as well not be there yet
pub kept_after-fresh : (bound : Option ℕ) (present last kept fresh : List GroupTextData) → All (λ text. is_among present text ≡ true) fresh →
    kept_after bound present (used_texts last (kept ++ fresh)) ≡ kept_after bound present (used_texts last kept)
kept_after-fresh bound present last kept fresh there =
    ap (within bound present)
    (ap (used_texts present) (used-append last kept fresh)
    ∙ ap (λ l. first_texts present ++ l)
    (filter-append (λ text. not (is_among present text)) (used_texts last kept) (without last fresh)
    ∙ ap (λ l. without present (used_texts last kept) ++ l)
    (without-present present (without last fresh) (All-filter (λ text. not (is_among last text)) (λ text. is_among present text ≡ true) fresh there))
    ∙ append-nil (without present (used_texts last kept))))

-- what a test leaves of distinct texts is distinct
pub IsDistinct-filter : (test : GroupTextData → Bool) (texts : List GroupTextData) → IsDistinct same_text texts → IsDistinct same_text (filter test texts)
unfolding IsDistinct
IsDistinct-filter test [] apart = tt
IsDistinct-filter test (text ∷ texts) apart = by (test text) (IsDistinct-filter test texts apart.1)
  where
    left : (others : List GroupTextData) → AllByRecursion (λ other. same_text text other ≡ false) others →
        AllByRecursion (λ other. same_text text other ≡ false) (filter test others)
    left [] each = tt
    left (other ∷ others) each = some (test other) (left others each.1)
      where
        some : (b : Bool) → AllByRecursion (λ one. same_text text one ≡ false) (filter test others) →
            AllByRecursion (λ one. same_text text one ≡ false) (cond b (other ∷ filter test others) (filter test others))
        some true rest = (each.0, rest)
        some false rest = rest

    by : (b : Bool) → IsDistinct same_text (filter test texts) → IsDistinct same_text (cond b (text ∷ filter test texts) (filter test texts))
    by true rest = (left texts apart.0, rest)
    by false rest = rest

-- the first appearances are distinct
pub IsDistinct-first : (texts : List GroupTextData) → IsDistinct same_text (first_texts texts)
unfolding IsDistinct
IsDistinct-first [] = tt
IsDistinct-first (text ∷ texts) = (
  apart (first_texts texts),
  IsDistinct-filter (λ other. not (same_text other text)) (first_texts texts) (IsDistinct-first texts),
)
  where
    apart : (others : List GroupTextData) → AllByRecursion (λ other. same_text text other ≡ false) (filter (λ other. not (same_text other text)) others)
    apart [] = tt
    apart (other ∷ others) = by (same_text other text) refl (apart others)
      where
        by : (same : Bool) → same_text other text ≡ same →
            AllByRecursion (λ one. same_text text one ≡ false) (filter (λ one. not (same_text one text)) others) →
            AllByRecursion (λ one. same_text text one ≡ false)
            (cond (not same) (other ∷ filter (λ one. not (same_text one text)) others) (filter (λ one. not (same_text one text)) others))
        by true is rest = rest
        by false is rest = (same_text_equivalence.symm text other ∙ is, rest)

-- lists with the same texts have as many distinct ones
pub length-first_same : (present others : List GroupTextData) → ((text : GroupTextData) → is_among present text ≡ is_among others text) →
    length (first_texts present) ≡ length (first_texts others)
length-first_same present others same =
    length-from_same_keys same_text_equivalence (first_texts present) (first_texts others) (IsDistinct-first present) (IsDistinct-first others)
    (λ text. is_among-first present text ∙ same text ∙ sym (is_among-first others text))

-- and leave the same of others
without-same : (present others kept : List GroupTextData) → ((text : GroupTextData) → is_among present text ≡ is_among others text) →
    without others kept ≡ without present kept
without-same present others kept same =
    filter_agree (λ text. not (is_among others text)) (λ text. not (is_among present text)) (λ text. ap not (sym (same text))) kept

-- so behind them the same is kept
behind-same : (bound : Option ℕ) (present others kept : List GroupTextData) → ((text : GroupTextData) → is_among present text ≡ is_among others text) →
    behind bound others kept ≡ behind bound present kept
behind-same None present others kept same = without-same present others kept same
behind-same (Some bound) present others kept same =
    ap (λ n. take (max bound n - n) (without others kept)) (sym (length-first_same present others same))
    ∙ ap (take (room_for bound present - length (first_texts present))) (without-same present others kept same)

-- a build over the present texts in another order keeps the same, but for that order
pub kept_after-any_order : (bound : Option ℕ) (present others kept : List GroupTextData) →
    ((text : GroupTextData) → is_among present text ≡ is_among others text) →
    used_texts present (kept_after bound others kept) ≡ kept_after bound present kept
kept_after-any_order bound present others kept same =
    ap (used_texts present) (kept_after-front bound others kept)
    ∙ ap (λ l. first_texts present ++ l)
    (filter-append (λ text. not (is_among present text)) (first_texts others) (behind bound others kept)
    ∙ ap (λ l. l ++ without present (behind bound others kept))
    (none_left present (first_texts others) (λ text is. same text ∙ sym (is_among-first others text) ∙ is))
    ∙ ap (without present) (behind-same bound present others kept same)
    ∙ behind-others bound present kept)
    ∙ sym (kept_after-front bound present kept)

-- if there is a bound, that is so for what is cut
pub cut-any_order : (bound : ℕ) (present others kept : List GroupTextData) → ((text : GroupTextData) → is_among present text ≡ is_among others text) →
    used_texts present (kept_after (Some bound) others kept) ≡ kept_after (Some bound) present kept
cut-any_order bound = kept_after-any_order (Some bound)

-- once texts that are kept were used there are no more
pub length-used : (present kept : List GroupTextData) → All (λ text. is_among kept text ≡ true) present → length (used_texts present kept) ≤ length kept
length-used present kept there =
    let some : List GroupTextData = filter (is_among present) kept in
    let few : length (first_texts present) ≤ length some = length-le_from_is_member same_text_equivalence (first_texts present) some (IsDistinct-first present) both in
    omega (
      arith,
      few,
      length-append (first_texts present) (without present kept),
      length-filter_both (is_among present) (λ text. not (is_among present text)) (λ text. refl) kept,
    )
  where
    both : (text : GroupTextData) → is_among (first_texts present) text ≡ true → is_among (filter (is_among present) kept) text ≡ true
    both text is =
        let here : is_among present text ≡ true = sym (is_among-first present text) ∙ is in
        list_any-filter (same_text text) (is_among present) (is_among present text) (alike_text (is_among present) text) kept
        ∙ and_from (is_among present text) (is_among kept text) here (among_all (is_among kept) true present there text here)

-- so if there is room for what is kept nothing is cut
pub within-roomy : (bound : ℕ) (present kept : List GroupTextData) → length kept ≤ room_for bound present →
    All (λ text. is_among kept text ≡ true) present → kept_after (Some bound) present kept ≡ used_texts present kept
within-roomy bound present kept roomy there =
    take_all (room_for bound present) (used_texts present kept) (omega (arith, roomy, length-used present kept there))

-- where texts that were kept were used the same is kept
pub is_among-used_kept : (last kept : List GroupTextData) → All (λ text. is_among kept text ≡ true) last → (text : GroupTextData) →
    is_among (used_texts last kept) text ≡ is_among kept text
is_among-used_kept last kept there text = is_among-used last kept text ∙ by (is_among last text) refl
  where
    by : (used : Bool) → is_among last text ≡ used → (used || is_among kept text) ≡ is_among kept text
    by true is = sym (among_all (is_among kept) true last there text is)
    by false is = refl

-- and so the same is new
pub new_texts-used : (last kept present : List GroupTextData) → All (λ text. is_among kept text ≡ true) last →
    new_texts (used_texts last kept) present ≡ new_texts kept present
new_texts-used last kept present there =
    filter_agree (λ text. not (is_among (used_texts last kept) text)) (λ text. not (is_among kept text))
    (λ text. ap not (is_among-used_kept last kept there text)) (first_texts present)
