-- Texts that are used one after another, the last one first, as they stand behind numbers.
use Rattle.std.proofs.Common.{◌≡◌, ℕ, ◌+◌, ◌<◌, true, not, List, [], ◌∷◌, ◌++◌, length, map, filter, drop, get_or, All, Option, None, Some, refl, sym, ap, ◌∙◌}
use Rattle.std.specs.Prelude.{slice_get, slice_index_or}
use Rattle.std.specs.List.{cons_option}
use Rattle.std.specs.Option.{IfSome}
use Rattle.std.proofs.lemmas.Bool.{cond-false}
use Rattle.std.proofs.lemmas.List.{drop_more}
use Rattle.std.proofs.lemmas.List.Elements.{filter-append}
use Rattle.group_text.specs.Texts.{GroupTextData}
use Rattle.group_text.specs.FirstTexts.{is_among}
use Rattle.group_analysis.specs.Using.{used_texts, to_front}
use Rattle.analysis_cache.proofs.UseLemmas.{all_to_front, all_to_front-used, is_among-used}
use Rattle.analysis_cache.proofs.OrderLemmas.{among_all}
use Rattle.kept_parts.specs.Uses.{UsesData, some_texts, texts_used}
use Rattle.unit_step.specs.LastTexts.{is_unused, text_in, texts_left, texts_numbered}
use Rattle.unit_step.proofs.LastTextsLemmas.{if_some_each}
use Rattle.unit_step.proofs.LastTextsOrder.{stands_at, text_at, text_of_part}
use Rattle.unit_step.proofs.FinishingFits.{among_some}
use Rattle.unit_step.proofs.LeavingOrder.{either}

all_to_front-append : (front back kept : List GroupTextData) → all_to_front (front ++ back) kept ≡ all_to_front front (all_to_front back kept)
all_to_front-append [] back kept = refl
all_to_front-append (text ∷ front) back kept = ap (to_front text) (all_to_front-append front back kept)

-- texts that are used before others may as well be used with them
pub used_texts-both : (front back kept : List GroupTextData) → used_texts front (used_texts back kept) ≡ used_texts (front ++ back) kept
used_texts-both front back kept =
    sym (all_to_front-used front (used_texts back kept))
    ∙ (ap (all_to_front front) (sym (all_to_front-used back kept))
    ∙ (sym (all_to_front-append front back kept)
    ∙ all_to_front-used (front ++ back) kept))

-- one text, or none, before others
one_before : (text : Option GroupTextData) (texts : List GroupTextData) → cons_option text texts ≡ cons_option text [] ++ texts
one_before None texts = refl
one_before (Some text) texts = refl

module _ (uses : UsesData) (numbers : List (Option ℕ)) (kept : List GroupTextData) where
  -- the text behind one number more is used before those behind the later ones
  pub used-numbered : (node : ℕ) (number : Option ℕ) → node < length numbers → number ≡ slice_index_or numbers node number →
      used_texts (text_in uses number) (used_texts (texts_numbered uses.known (drop (node + 1) numbers)) kept)
      ≡ used_texts (texts_numbered uses.known (drop node numbers)) kept
  used-numbered node number inside is =
      let rest = texts_numbered uses.known (drop (node + 1) numbers) in
      used_texts-both (text_in uses number) rest kept
      ∙ ap (λ texts. used_texts texts kept)
      (sym (one_before (text_at uses.known number) rest)
      ∙ (ap (λ one. texts_numbered uses.known (one ∷ drop (node + 1) numbers)) is
      ∙ ap (texts_numbered uses.known) (sym (drop_more numbers node number inside))))

  -- and so is that at one node more which no part has
  pub used-left : (places : List ℕ) (place : ℕ) (number : Option ℕ) → place < length places → number ≡ slice_index_or numbers (get_or places place 0) None →
      used_texts (filter (is_unused uses) (text_in uses number)) (used_texts (texts_left uses numbers (drop (place + 1) places)) kept)
      ≡ used_texts (texts_left uses numbers (drop place places)) kept
  used-left places place number inside is =
      let text_of : ℕ → Option GroupTextData = λ node. text_at uses.known (slice_index_or numbers node None) in
      let rest = some_texts (map text_of (drop (place + 1) places)) in
      used_texts-both (filter (is_unused uses) (text_in uses number)) (filter (is_unused uses) rest) kept
      ∙ ap (λ texts. used_texts texts kept)
      (sym (filter-append (is_unused uses) (text_in uses number) rest)
      ∙ ap (filter (is_unused uses))
      (sym (one_before (text_at uses.known number) rest)
      ∙ (ap (λ one. cons_option (text_at uses.known one) rest) is
      ∙ ap (λ nodes. some_texts (map text_of nodes)) (sym (drop_more places place 0 inside)))))

-- a text that some part has isn't used
pub leaver-none : (uses : UsesData) (number : Option ℕ) (one : ℕ) → number ≡ Some one → one < length uses.known →
    ((text : GroupTextData) → slice_get uses.known one ≡ Some text → is_among (some_texts (texts_used uses)) text ≡ true) →
    filter (is_unused uses) (text_in uses number) ≡ []
leaver-none uses number one is inside used =
    let (text, here) = stands_at uses.known one inside in
    ap (λ found. filter (is_unused uses) (cons_option found [])) (ap (text_at uses.known) is ∙ here)
    ∙ cond-false (is_unused uses text) (text ∷ []) [] (ap not (used text here))

-- the text behind a number is kept, if all of them were before some were used
pub numbered-kept : (known : List GroupTextData) (numbers : List (Option ℕ)) (kept some now : List GroupTextData) →
    All (λ text. is_among kept text ≡ true) (texts_numbered known numbers) → now ≡ used_texts some kept → (node : ℕ) (number : Option ℕ) →
    slice_index_or numbers node None ≡ number →
    IfSome number (λ one. (text : GroupTextData) → slice_get known one ≡ Some text → is_among now text ≡ true)
numbered-kept known numbers kept some now all used node number is =
    if_some_each number (λ one. (text : GroupTextData) → slice_get known one ≡ Some text → is_among now text ≡ true) (λ one one_is text here.
    let texts = map (text_at known) numbers in
    let has : slice_index_or texts node None ≡ Some text = text_of_part known numbers node ∙ (ap (text_at known) (is ∙ one_is) ∙ here) in
    ap (λ list. is_among list text) used
    ∙ (is_among-used some kept text
    ∙ either (is_among some text) (is_among kept text) (among_all (is_among kept) true (some_texts texts) all text (among_some texts node text has))))
