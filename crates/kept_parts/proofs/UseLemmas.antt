-- Counting how often texts are used: one text more is one use more, and a text that wasn't used yet is one distinct text more.
use Rattle.std.proofs.Common.{◌≡◌, ◌≢◌, ℕ, ◌+◌, ◌<◌, ◌≤◌, Bool, true, false, cond, ◌||◌, inl, inr, List, [], ◌∷◌, ◌++◌, length, Some, refl, sym, ap, subst, ◌∙◌, arith, nat_lt}
use Rattle.std.specs.Prelude.{slice_get, slice_index, slice_set, count_by, replicate}
use Rattle.std.specs.List.{IsDistinct}
use Rattle.std.proofs.lemmas.Bool.{cases_eq, cases_order, false_from_ne_true, lt-ltb}
use Rattle.std.proofs.lemmas.List.{get_or-set_same, get_or-set_other, length-set, length_push, length-replicate, get_or-replicate}
use Rattle.std.proofs.lemmas.List.Sums.{sum_by_push, sum_by-cons, sum_by-set, count_by-le-length}
use Rattle.std.proofs.lemmas.List.Folds.{sum_by-replicate}
use Rattle.std.proofs.lemmas.Map.Made.{AllPairs-from_IsDistinct}
use Rattle.std.proofs.lemmas.Option.{slice_get_within, get_or_from_slice_get}
use Rattle.group_text.specs.Texts.{GroupTextData}
use Rattle.group_text.specs.Compared.{same_text, same_text_decides}
use Rattle.group_text.specs.FirstTexts.{is_among, first_texts}
use Rattle.analysis_cache.proofs.NewTextLemmas.{new_texts-none_kept, new_texts-known, new_texts-new, is_among-kept}
use Rattle.kept_parts.specs.Uses.{CountsUses, used}

-- a text is among those among which it stands at least once
pub is_among-count : (texts : List GroupTextData) (text : GroupTextData) → is_among texts text ≡ nat_lt 0 (count_by (same_text text) texts)
is_among-count [] text = refl
is_among-count (first ∷ texts) text = by (same_text text first) refl (is_among-count texts text)
  where
    by : (same : Bool) → same_text text first ≡ same → is_among texts text ≡ nat_lt 0 (count_by (same_text text) texts) →
        (same || is_among texts text) ≡ nat_lt 0 (count_by (same_text text) (first ∷ texts))
    by true is later =
        let worth : GroupTextData → ℕ = λ other. cond (same_text text other) 1 0 in
        let here : worth first ≡ 1 = ap (λ b. cond b 1 0) is in
        let more : 0 < count_by (same_text text) (first ∷ texts) =
        omega (arith, sum_by-cons worth first texts, here) in
        sym (lt-ltb 0 (count_by (same_text text) (first ∷ texts)) more)
    by false is later =
        let worth : GroupTextData → ℕ = λ other. cond (same_text text other) 1 0 in
        let here : worth first ≡ 0 = ap (λ b. cond b 1 0) is in
        let same : count_by (same_text text) texts ≡ count_by (same_text text) (first ∷ texts) =
        omega (arith, sum_by-cons worth first texts, here) in
        later ∙ ap (nat_lt 0) same

-- a text that isn't among others is one distinct text more behind them
first_texts-new : (front : List GroupTextData) (text : GroupTextData) → is_among front text ≡ false →
    length (first_texts (front ++ text ∷ [])) ≡ length (first_texts front) + 1
first_texts-new front text is =
    let grown : first_texts (front ++ text ∷ []) ≡ first_texts front ++ text ∷ [] =
    sym (new_texts-none_kept (front ++ text ∷ []))
    ∙ (new_texts-new [] front text [] (is_among-kept [] front text ∙ is) ∙ ap (λ l. l ++ text ∷ []) (new_texts-none_kept front)) in
    ap length grown ∙ length_push (first_texts front) text

-- and one that is among them is none
first_texts-known : (front : List GroupTextData) (text : GroupTextData) → is_among front text ≡ true →
    length (first_texts (front ++ text ∷ [])) ≡ length (first_texts front)
first_texts-known front text is =
    ap length (sym (new_texts-none_kept (front ++ text ∷ []))
    ∙ (new_texts-known [] front text (is_among-kept [] front text ∙ is) ∙ new_texts-none_kept front))

-- a number of uses that rises isn't 0 afterwards
abbrev in_use : ℕ → ℕ
in_use n = cond (nat_lt 0 n) 1 0

module _ (uses : List ℕ) (place : ℕ) (inside : place < length uses) where
  raised-in_use : in_use (slice_index uses place + 1) ≡ 1
  raised-in_use = ap (λ b. cond b 1 0) (lt-ltb 0 (slice_index uses place + 1) (omega arith))

  -- with one use more of a text that is used as many are in use
  pub used-again : nat_lt 0 (slice_index uses place) ≡ true → used (slice_set uses place (slice_index uses place + 1)) ≡ used uses
  used-again is =
      let before : in_use (slice_index uses place) ≡ 1 = ap (λ b. cond b 1 0) is in
      omega (arith, sum_by-set in_use uses place (slice_index uses place + 1) 0 inside, before, raised-in_use)

  -- and with the first use of one that isn't, one more
  pub used-first : nat_lt 0 (slice_index uses place) ≡ false → used (slice_set uses place (slice_index uses place + 1)) ≡ used uses + 1
  used-first is =
      let before : in_use (slice_index uses place) ≡ 0 = ap (λ b. cond b 1 0) is in
      omega (arith, sum_by-set in_use uses place (slice_index uses place + 1) 0 inside, before, raised-in_use)

-- two places of texts that are apart have two texts
pub same_place : (kept : List GroupTextData) → IsDistinct same_text kept → (p q : ℕ) (text : GroupTextData) → slice_get kept p ≡ Some text →
    slice_get kept q ≡ Some text → p ≡ q
same_place kept apart p q text at_p at_q =
    let pairs = AllPairs-from_IsDistinct same_text_decides kept apart in
    let here = get_or_from_slice_get kept p text text at_p in
    let there = get_or_from_slice_get kept q text text at_q in
    elim (cases_order p q) [
      | inl equal ↦ equal
      | inr other ↦
          elim other [
            | inl before ↦ absurd (pairs p q text before (slice_get_within kept q text at_q) (here ∙ sym there))
            | inr after ↦ absurd (pairs q p text after (slice_get_within kept p text at_p) (there ∙ sym here))
          ]
    ]

module _ (kept front : List GroupTextData) (uses : List ℕ) (place : ℕ) (text : GroupTextData) (apart : IsDistinct same_text kept)
    (stands : slice_get kept place ≡ Some text) (counts : CountsUses kept front uses) where
  -- the text is used as often as it stood among the others
  used_here : slice_index uses place ≡ count_by (same_text text) front
  used_here = counts.each place text stands

  -- which is at most as often as there are texts
  pub used_few : slice_index uses place ≤ length front
  used_few = omega (arith, used_here, count_by-le-length (same_text text) front)

  pub place_inside : place < length uses
  place_inside = omega (arith, counts.count, slice_get_within kept place text stands)

  -- one text more behind the others is one use more
  pub CountsUses-more : CountsUses kept (front ++ text ∷ []) (slice_set uses place (slice_index uses place + 1))
  CountsUses-more = record {
    count = length-set uses place (slice_index uses place + 1) ∙ counts.count;
    each = λ q other at_q.
        let worth_of : GroupTextData → ℕ = λ one. cond (same_text other one) 1 0 in
        let more = sum_by_push worth_of front text in
        elim (cases_eq q place) [
          | inl same ↦
              let at_place : slice_get kept place ≡ Some other = subst (λ n. slice_get kept n ≡ Some other) same at_q in
              let one : Some text ≡ Some other = sym stands ∙ at_place in
              let is : other ≡ text = cc in
              let worth : worth_of text ≡ 1 = ap (λ b. cond b 1 0) ((same_text_decides other text).1 is) in
              let so_far = counts.each place other at_place in
              ap (slice_index (slice_set uses place (slice_index uses place + 1))) same
              ∙ get_or-set_same uses place (slice_index uses place + 1) 0 place_inside
              ∙ omega (arith, so_far, more, worth)
          | inr differs ↦
              let apart_text : other ≢ text = λ is. differs (same_place kept apart q place text (at_q ∙ ap Some is) stands) in
              let no : same_text other text ≡ false =
              false_from_ne_true (same_text other text) (λ is. apart_text ((same_text_decides other text).0 is)) in
              let worth : worth_of text ≡ 0 = ap (λ b. cond b 1 0) no in
              let so_far = counts.each q other at_q in
              get_or-set_other uses place q (slice_index uses place + 1) 0 differs ∙ omega (arith, so_far, more, worth)
        ];
  }

  -- and as many texts are in use as there are distinct ones
  pub used-more : used uses ≡ length (first_texts front) →
      used (slice_set uses place (slice_index uses place + 1)) ≡ length (first_texts (front ++ text ∷ []))
  used-more distinct = by (is_among front text) refl
    where
      seen : is_among front text ≡ nat_lt 0 (slice_index uses place)
      seen = is_among-count front text ∙ ap (nat_lt 0) (sym used_here)

      by : (among : Bool) → is_among front text ≡ among →
          used (slice_set uses place (slice_index uses place + 1)) ≡ length (first_texts (front ++ text ∷ []))
      by true is = used-again uses place place_inside (sym seen ∙ is) ∙ (distinct ∙ sym (first_texts-known front text is))
      by false is =
          used-first uses place place_inside (sym seen ∙ is)
          ∙ (ap (λ n. n + 1) distinct ∙ sym (first_texts-new front text is))

-- before the first text none is used
pub CountsUses-none : (kept : List GroupTextData) → CountsUses kept [] (replicate (length kept) 0)
CountsUses-none kept = record {
  count = length-replicate (length kept) 0;
  each = λ place text stands. get_or-replicate (length kept) place 0 0 (slice_get_within kept place text stands);
}

pub used-none : (n : ℕ) → used (replicate n 0) ≡ 0
used-none n = omega (arith, sum_by-replicate in_use n 0)
