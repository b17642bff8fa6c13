-- The texts that some part has, among those that have a number: what is used of them is moved to the front, the last number first, and there is
-- room for as many as are distinct.
use Rattle.std.proofs.Common.{◌≡◌, ℕ, ◌+◌, ◌<◌, ◌≤◌, max, Bool, true, false, cond, ◌&&◌, List, ◌∷◌, length, drop, take, filter, All, Option, None, Some, refl, sym, ap, ◌∙◌, arith, nat_lt, get_or, true≢false}
use Rattle.std.specs.Prelude.{count_by, slice_get, slice_index, slice_index_or}
use Rattle.std.proofs.lemmas.Bool.{cond-true, cond-false, and_from, false_from_ne_true, ltb-false}
use Rattle.std.proofs.lemmas.List.{drop_more, take-map, length-map}
use Rattle.std.proofs.lemmas.Option.{slice_get_within, get_or_from_slice_get}
use Rattle.group_text.specs.Texts.{GroupTextData}
use Rattle.group_text.specs.Compared.{same_text}
use Rattle.group_text.specs.FirstTexts.{is_among, first_texts}
use Rattle.group_analysis.specs.Using.{used_texts, kept_after, room_for}
use Rattle.analysis_cache.specs.Keeping.{KeptData, entry_texts, texts_of}
use Rattle.analysis_cache.proofs.NewTextLemmas.{list_any-filter, alike_text, is_among-themselves}
use Rattle.analysis_cache.proofs.UseLemmas.{each_present}
use Rattle.analysis_cache.proofs.OrderLemmas.{among_all, length-first_same, kept_after-any_order, within-roomy}
use Rattle.kept_parts.specs.Uses.{UsesData, AreCounted, AreSame, CutsTo, in_use, some_texts, texts_used}
use Rattle.kept_parts.proofs.UseLemmas.{is_among-count}
use Rattle.kept_parts.proofs.NumberLemmas.{distinct_is, used_known, count_of_numbers}
use Rattle.kept_parts.proofs.PlaceLemmas.{there, among_at}

-- a text is used exactly if its count isn't 0
pub is_used-count : (known : List GroupTextData) (counts : List ℕ) (numbers : List (Option ℕ)) (distinct number : ℕ) (text : GroupTextData) →
    AreCounted known counts numbers distinct → slice_get known number ≡ Some text →
    nat_lt 0 (slice_index counts number) ≡ is_among (some_texts (texts_used (record { known = known; numbers = numbers }))) text
is_used-count known counts numbers distinct number text are here =
    ap (nat_lt 0) (are.each number ∙ count_of_numbers known are.apart number text here numbers are.inside)
    ∙ sym (is_among-count (some_texts (texts_used (record { known = known; numbers = numbers }))) text)

-- as many parts have a known text as have its number
pub parts_with-known : (known : List GroupTextData) (counts : List ℕ) (numbers : List (Option ℕ)) (distinct number : ℕ) (text : GroupTextData) →
    AreCounted known counts numbers distinct → slice_get known number ≡ Some text →
    slice_index counts number ≡ count_by (same_text text) (some_texts (texts_used (record { known = known; numbers = numbers })))
parts_with-known known counts numbers distinct number text are here =
    are.each number ∙ count_of_numbers known are.apart number text here numbers are.inside

-- and none has another one
pub parts_with-unknown : (known : List GroupTextData) (counts : List ℕ) (numbers : List (Option ℕ)) (distinct : ℕ) (text : GroupTextData) →
    AreCounted known counts numbers distinct → is_among known text ≡ false →
    0 ≡ count_by (same_text text) (some_texts (texts_used (record { known = known; numbers = numbers })))
parts_with-unknown known counts numbers distinct text are unknown =
    let texts = some_texts (texts_used (record { known = known; numbers = numbers })) in
    let none : is_among texts text ≡ false =
    false_from_ne_true (is_among texts text) (λ is.
    true≢false (sym (among_all (is_among known) true texts (used_known known numbers are.inside) text is) ∙ unknown)) in
    omega (arith, ltb-false 0 (count_by (same_text text) texts) (sym (is_among-count texts text) ∙ none))

-- the texts that some part has, of those with this number and a later one
abbrev pub in_use_from : ℕ → UsesData → List GroupTextData
in_use_from number uses = filter (is_among (some_texts (texts_used uses))) (drop number uses.known)

module _ (uses : UsesData) where
  -- the texts of those parts that have one
  abbrev texts : List GroupTextData
  texts = some_texts (texts_used uses)

  -- a text with a number that some part has is in use
  pub in_use-at : (number : ℕ) (text : GroupTextData) → slice_get uses.known number ≡ Some text → is_among texts text ≡ true →
      is_among (in_use uses) text ≡ true
  in_use-at number text here used =
      list_any-filter (same_text text) (is_among texts) (is_among texts text) (alike_text (is_among texts) text) uses.known
      ∙ and_from (is_among texts text) (is_among uses.known text) used (among_at uses.known number text here)

  -- with one number less its text stands in front
  more_from : (number : ℕ) (text : GroupTextData) → slice_get uses.known number ≡ Some text →
      in_use_from number uses ≡ cond (is_among texts text) (text ∷ in_use_from (number + 1) uses) (in_use_from (number + 1) uses)
  more_from number text here =
      ap (filter (is_among texts))
      (drop_more uses.known number text (slice_get_within uses.known number text here)
      ∙ ap (λ one. one ∷ drop (number + 1) uses.known) (get_or_from_slice_get uses.known number text text here))

  -- if it is used
  pub in_use_from-used : (number : ℕ) (text : GroupTextData) → slice_get uses.known number ≡ Some text → is_among texts text ≡ true →
      in_use_from number uses ≡ text ∷ in_use_from (number + 1) uses
  in_use_from-used number text here used = more_from number text here ∙ cond-true (is_among texts text) _ _ used

  -- and else it doesn't
  pub in_use_from-unused : (number : ℕ) → number < length uses.known →
      ((text : GroupTextData) → slice_get uses.known number ≡ Some text → is_among texts text ≡ false) →
      in_use_from number uses ≡ in_use_from (number + 1) uses
  in_use_from-unused number inside unused =
      let (text, here) = there uses.known number inside in
      more_from number text here ∙ cond-false (is_among texts text) _ _ (unused text here)

  -- each text that some part has has a number, so it is in use
  pub in_use-same : ((k number : ℕ) → slice_index_or uses.numbers k None ≡ Some number → number < length uses.known) → AreSame (in_use uses) texts
  in_use-same inside text =
      list_any-filter (same_text text) (is_among texts) (is_among texts text) (alike_text (is_among texts) text) uses.known
      ∙ by (is_among texts text) refl
    where
      by : (used : Bool) → is_among texts text ≡ used → (used && is_among uses.known text) ≡ used
      by true is = among_all (is_among uses.known) true texts (used_known uses.known uses.numbers inside) text is
      by false is = refl

-- as many texts are distinct as are in use
pub distinct-in_use : (known : List GroupTextData) (counts : List ℕ) (numbers : List (Option ℕ)) (distinct : ℕ) →
    AreCounted known counts numbers distinct → distinct ≡ length (first_texts (in_use (record { known = known; numbers = numbers })))
distinct-in_use known counts numbers distinct are =
    let uses : UsesData = record { known = known; numbers = numbers } in
    distinct_is known counts numbers distinct are
    ∙ sym (length-first_same (in_use uses) (some_texts (texts_used uses)) (in_use-same uses are.inside))

module _ (texts : List GroupTextData) (old : KeptData) (bound : ℕ) (bound_is : old.bound ≡ Some bound) where
  -- if there is room for what is kept nothing is cut
  pub CutsTo-roomy : length old.entries ≤ max bound (length (first_texts texts)) →
      All (λ text. is_among (texts_of old) text ≡ true) texts → CutsTo texts old old
  CutsTo-roomy roomy there = record {
    kept = λ present same.
        sym (ap (λ some. kept_after some present (texts_of old)) bound_is
        ∙ within-roomy bound present (texts_of old)
        (omega (arith, roomy, length-map old.entries (λ entry. entry.0), length-first_same present texts same))
        (λ k d inside. among_all (is_among (texts_of old)) true texts there (get_or present k d)
        (sym (same (get_or present k d)) ∙ is_among-themselves present k d inside)));
    there = there;
    bound = refl;
  }

  -- where the texts stand in front, and what there is no room for is cut, just that is cut, however the texts are listed
  pub CutsTo-cut : (mid new : KeptData) → texts_of mid ≡ used_texts texts (texts_of old) →
      new.entries ≡ take (max bound (length (first_texts texts))) mid.entries → new.bound ≡ old.bound → CutsTo texts old new
  CutsTo-cut mid new used cut same_bound =
      let are : texts_of new ≡ kept_after (Some bound) texts (texts_of old) =
      ap entry_texts cut ∙ sym (take-map _ (room_for bound texts) mid.entries) ∙ ap (take (room_for bound texts)) used in
      record {
        kept = λ present same.
            ap (used_texts present) are
            ∙ kept_after-any_order (Some bound) present texts (texts_of old) same
            ∙ ap (λ some. kept_after some present (texts_of old)) (sym bound_is);
        there = λ k d inside.
            ap (λ kept. is_among kept (get_or texts k d)) are ∙ each_present (Some bound) texts (texts_of old) k d inside;
        bound = same_bound;
      }
