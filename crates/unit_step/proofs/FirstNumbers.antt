-- Each number once, in the order of first appearance: the texts behind these numbers appear first in the order in which those behind all numbers
-- do. So once they were used the same is kept.
use Rattle.std.proofs.Common.{◌≡◌, ℕ, zero, suc, ◌<◌, Bool, true, false, not, inl, inr, ◌⊎◌, List, [], ◌∷◌, ◌++◌, length, map, filter, replicate, get_or, All, Option, None, Some, true≢false, append-nil, refl, sym, ap, subst, ◌∙◌, arith}
use Rattle.std.specs.Prelude.{Contains, slice_get, slice_index_or, slice_set}
use Rattle.std.specs.List.{cons_option, filter_map}
use Rattle.std.proofs.lemmas.Bool.{cases_eq}
use Rattle.std.proofs.lemmas.List.{get_or_default, get_or-set_other, length-set, map-append}
use Rattle.std.proofs.lemmas.List.Elements.{Contains-append_left, Contains-push, filter_agree, filter_map-append}
use Rattle.group_text.specs.Texts.{GroupTextData}
use Rattle.group_text.specs.FirstTexts.{is_among, first_texts}
use Rattle.group_analysis.specs.Using.{used_texts}
use Rattle.analysis_cache.proofs.NewTextLemmas.{is_among-first, is_among-themselves, first_texts-append}
use Rattle.analysis_cache.proofs.UseLemmas.{first_texts-known}
use Rattle.analysis_cache.proofs.DistinctLemmas.{used_texts-first}
use Rattle.analysis_cache.proofs.OrderLemmas.{among_all}
use Rattle.unit_step.specs.LastTexts.{AreFirsts, texts_numbered}
use Rattle.unit_step.proofs.FinishingFits.{among_some}
use Rattle.unit_step.proofs.LastTextsOrder.{text_at, text_of_part}

-- texts with the same first appearances are the same texts
same_among : (these those : List GroupTextData) → first_texts these ≡ first_texts those → (text : GroupTextData) → is_among these text ≡ is_among those text
same_among these those same text =
    sym (is_among-first these text) ∙ (ap (λ list. is_among list text) same ∙ is_among-first those text)

-- and have the same first appearances with others behind them
same_behind : (these those back : List GroupTextData) → first_texts these ≡ first_texts those → first_texts (these ++ back) ≡ first_texts (those ++ back)
same_behind these those back same =
    first_texts-append these back
    ∙ (ap (λ list. list ++ filter (λ text. not (is_among these text)) (first_texts back)) same
    ∙ (ap (λ list. first_texts those ++ list)
    (filter_agree (λ text. not (is_among these text)) (λ text. not (is_among those text)) (λ text. ap not (same_among these those same text)) (first_texts back))
    ∙ sym (first_texts-append those back)))

-- the texts behind further numbers stand behind the others
texts_numbered-append : (known : List GroupTextData) (front back : List (Option ℕ)) →
    texts_numbered known (front ++ back) ≡ texts_numbered known front ++ texts_numbered known back
texts_numbered-append known front back =
    ap (λ list. filter_map (λ text. text) list) (map-append (text_at known) front back)
    ∙ filter_map-append (λ text. text) (map (text_at known) front) (map (text_at known) back)

-- the text behind a number is among those behind numbers of which it is one
text_among : (known : List GroupTextData) (numbers : List (Option ℕ)) (number : ℕ) (text : GroupTextData) → Contains numbers (Some number) →
    slice_get known number ≡ Some text → is_among (texts_numbered known numbers) text ≡ true
text_among known numbers number text (place, inside, here) is =
    among_some (map (text_at known) numbers) place text
    (text_of_part known numbers place ∙ (ap (text_at known) (get_or_default numbers place None (Some number) inside ∙ here) ∙ is))

-- a number that was there already tells no text that is new
first_texts-again : (known : List GroupTextData) (numbers : List (Option ℕ)) (number : ℕ) → Contains numbers (Some number) →
    first_texts (texts_numbered known (numbers ++ Some number ∷ [])) ≡ first_texts (texts_numbered known numbers)
first_texts-again known numbers number there =
    ap first_texts (texts_numbered-append known numbers (Some number ∷ [])) ∙ by (slice_get known number) refl
  where
    by : (found : Option GroupTextData) → slice_get known number ≡ found →
        first_texts (texts_numbered known numbers ++ cons_option found []) ≡ first_texts (texts_numbered known numbers)
    by None is = ap first_texts (append-nil (texts_numbered known numbers))
    by (Some text) is = first_texts-known (texts_numbered known numbers) text (text_among known numbers number text there is)

-- what stands in a list with one more behind it
last_or_before : (list : List (Option ℕ)) (last : Option ℕ) (place number : ℕ) → slice_index_or (list ++ last ∷ []) place None ≡ Some number →
    (slice_index_or list place None ≡ Some number) ⊎ (last ≡ Some number)
last_or_before [] last zero number is = inr is
last_or_before [] last (suc place) number is = absurd cc
last_or_before (first ∷ list) last zero number is = inl is
last_or_before (first ∷ list) last (suc place) number is = last_or_before list last place number is

-- nothing was seen yet
unseen : (count number : ℕ) → ¬ (slice_index_or (replicate count false) number false ≡ true)
unseen zero number is = true≢false (sym is)
unseen (suc count) zero is = true≢false (sym is)
unseen (suc count) (suc number) is = unseen count number is

pub firsts_none : (count : ℕ) → AreFirsts [] [] (replicate count false)
firsts_none count = record {
  same = λ known. refl;
  inside = λ place number is. absurd cc;
  there = λ number is. absurd (unseen count number is);
}

module _ (numbers firsts : List (Option ℕ)) (seen : List Bool) (are : AreFirsts numbers firsts seen) where
  -- no number came
  pub firsts_no_number : AreFirsts (numbers ++ None ∷ []) firsts seen
  firsts_no_number = record {
    same = λ known.
        are.same known
        ∙ ap first_texts (sym (texts_numbered-append known numbers (None ∷ []) ∙ append-nil (texts_numbered known numbers)));
    inside = are.inside;
    there = λ number is. Contains-append_left numbers (None ∷ []) (Some number) (are.there number is);
  }

  -- a number came that was seen
  pub firsts_seen : (one : ℕ) → slice_index_or seen one false ≡ true → AreFirsts (numbers ++ Some one ∷ []) firsts seen
  firsts_seen one is_seen = record {
    same = λ known. are.same known ∙ sym (first_texts-again known numbers one (are.there one is_seen));
    inside = are.inside;
    there = λ number is. Contains-append_left numbers (Some one ∷ []) (Some number) (are.there number is);
  }

  -- a number came that was not
  pub firsts_new : (one : ℕ) → one < length seen → AreFirsts (numbers ++ Some one ∷ []) (firsts ++ Some one ∷ []) (slice_set seen one true)
  firsts_new one below = record {
    same = λ known.
        ap first_texts (texts_numbered-append known firsts (Some one ∷ []))
        ∙ (same_behind (texts_numbered known firsts) (texts_numbered known numbers) (texts_numbered known (Some one ∷ [])) (are.same known)
        ∙ ap first_texts (sym (texts_numbered-append known numbers (Some one ∷ []))));
    inside = λ place number is.
        elim (last_or_before firsts (Some one) place number is) [
          | inl before ↦ omega (arith, are.inside place number before, length-set seen one true)
          | inr last ↦
              let same : one ≡ number = cc in
              omega (arith, same, below, length-set seen one true)
        ];
    there = λ number is.
        elim (cases_eq number one) [
          | inl same ↦ subst (λ n. Contains (numbers ++ Some one ∷ []) (Some n)) (sym same) (Contains-push numbers (Some one))
          | inr differs ↦
              Contains-append_left numbers (Some one ∷ []) (Some number)
              (are.there number (sym (get_or-set_other seen one number true false differs) ∙ is))
        ];
  }

  -- what all texts behind the numbers are, those behind the first ones are
  pub firsts_all : (known : List GroupTextData) (test : GroupTextData → Bool) → All (λ text. test text ≡ true) (texts_numbered known numbers) →
      All (λ text. test text ≡ true) (texts_numbered known firsts)
  firsts_all known test all = λ k d inside.
      let text = get_or (texts_numbered known firsts) k d in
      among_all test true (texts_numbered known numbers) all text
      (sym (same_among (texts_numbered known firsts) (texts_numbered known numbers) (are.same known) text)
      ∙ is_among-themselves (texts_numbered known firsts) k d inside)

  -- once they were used the same is kept
  pub used-firsts : (known kept : List GroupTextData) → used_texts (texts_numbered known firsts) kept ≡ used_texts (texts_numbered known numbers) kept
  used-firsts known kept =
      sym (used_texts-first (texts_numbered known firsts) kept)
      ∙ (ap (λ texts. used_texts texts kept) (are.same known) ∙ used_texts-first (texts_numbered known numbers) kept)
