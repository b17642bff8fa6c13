-- The distinct ones of some texts, which stand in front of a table: each text either appears first, and is the next one in front, or is one
-- of those that were passed.
use Rattle.std.proofs.Common.{◌≡◌, ℕ, zero, suc, ◌+◌, ◌≤◌, Bool, true, false, not, cond, List, [], ◌∷◌, ◌++◌, filter, length, drop, Option, None, Some, refl, sym, ap, subst, ◌∙◌, append_assoc, true≢false, arith}
use Rattle.std.specs.List.{IsDistinct}
use Rattle.std.specs.Map.{keys_of}
use Rattle.std.specs.Map.Iter.{TakesFirst, deref_pair}
use Rattle.std.specs.Borrow.{Bor}
use Rattle.std.specs.Option.{option_map_or}
use Rattle.std.proofs.lemmas.Bool.{cond-true}
use Rattle.std.proofs.lemmas.List.{drop_at, drop-drop, length_push}
use Rattle.group_text.specs.Texts.{GroupTextData}
use Rattle.group_text.specs.Compared.{same_text, same_text_equivalence}
use Rattle.group_text.specs.FirstTexts.{is_among, first_texts}
use Rattle.analysis_cache.specs.Table.{Shared}
use Rattle.analysis_cache.proofs.NewTextLemmas.{is_among-first, first_texts-append}
use Rattle.analysis_cache.proofs.UseLemmas.{apart_from, first_texts-known, first_texts-new}
use Rattle.analysis_cache.proofs.TableLemmas.{Rows}

-- what is lent of a row
abbrev pub Lent : Type 0
Lent = Bor GroupTextData × Bor Shared

-- these rows are left, of which the next is lent already
abbrev pub AreLeft : Rows → Option Lent → Rows → Type 0
AreLeft rows next rest = TakesFirst (deref_pair {K = GroupTextData} {X = Shared}) rows next rest

-- the text is that of the next row
abbrev pub is_next : GroupTextData → Option Lent → Bool
is_next text next = option_map_or (λ one. same_text text one.0.now) next false

-- of a prefix of texts at most as many are distinct as there are
pub length-first : (texts : List GroupTextData) → length (first_texts texts) ≤ length texts
length-first [] = omega arith
length-first (text ∷ texts) = omega (arith, fewer (λ other. not (same_text other text)) (first_texts texts), length-first texts)
  where
    fewer : {X : Type 0} (p : X → Bool) (xs : List X) → length (filter p xs) ≤ length xs
    fewer p [] = omega arith
    fewer p (x ∷ xs) = by (p x) (fewer p xs)
      where
        by : (b : Bool) → length (filter p xs) ≤ length xs → length (cond b (x ∷ filter p xs) (filter p xs)) ≤ length (x ∷ xs)
        by true rest = omega arith
        by false rest = omega arith

-- one more text, which appears first or doesn't
pub length-first_more : (front : List GroupTextData) (text : GroupTextData) →
    length (first_texts (front ++ text ∷ [])) ≡ cond (not (is_among front text)) (length (first_texts front) + 1) (length (first_texts front))
length-first_more front text = by (is_among front text) refl
  where
    by : (known : Bool) → is_among front text ≡ known →
        length (first_texts (front ++ text ∷ [])) ≡ cond (not known) (length (first_texts front) + 1) (length (first_texts front))
    by true is = ap length (first_texts-known front text is)
    by false is = ap length (first_texts-new front text [] is) ∙ length_push (first_texts front) text

-- where the next row is passed, those behind it are left
pub passes_next : (rows : Rows) (n : ℕ) (text : GroupTextData) (next : Option Lent) (rest : Rows) → AreLeft (drop n rows) next rest →
    is_next text next ≡ true → drop (n + 1) rows ≡ rest
passes_next rows n text None rest left is = absurd (true≢false (sym is))
passes_next rows n text (Some one) rest left is = sym (drop-drop 1 n rows) ∙ ap (drop 1) left

module _ (front : List GroupTextData) (text : GroupTextData) (back others : List GroupTextData) (rows : Rows)
    (keys : keys_of rows ≡ first_texts (front ++ text ∷ back) ++ others) (apart : IsDistinct same_text (keys_of rows)) where
  -- the texts that appear behind the front
  abbrev added : List GroupTextData
  added = filter (λ other. not (is_among front other)) (first_texts (text ∷ back)) ++ others

  -- those of the front stand before them
  split : keys_of rows ≡ first_texts front ++ added
  split =
      keys ∙ ap (λ l. l ++ others) (first_texts-append front (text ∷ back))
      ∙ append_assoc (first_texts front) (filter (λ other. not (is_among front other)) (first_texts (text ∷ back))) others

  module _ (count : ℕ) (counted : count ≡ length (first_texts front)) where
    tail : keys_of (drop count rows) ≡ added
    tail = sym (drop-keys count rows) ∙ ap (drop count) split ∙ drop_at (first_texts front) added count (sym counted)
      where
        drop-keys : (n : ℕ) (some : Rows) → drop n (keys_of some) ≡ keys_of (drop n some)
        drop-keys zero some = refl
        drop-keys (suc n) [] = refl
        drop-keys (suc n) (row ∷ some) = drop-keys n some

    by_known : (known : Bool) (next : Option Lent) (rest : Rows) → is_among front text ≡ known → AreLeft (drop count rows) next rest →
        is_next text next ≡ not known
    by_known true None rest is left = refl
    by_known true (Some one) rest is left =
        apart_from (first_texts front) one.0.now (keys_of rest) text
        (subst (IsDistinct same_text) (split ∙ ap (λ l. first_texts front ++ l) (sym tail ∙ ap keys_of left)) apart)
        (is_among-first front text ∙ is)
    by_known false None rest is left =
        let here : added ≡ text ∷ (filter (λ other. not (is_among front other)) (filter (λ other. not (same_text other text)) (first_texts back)) ++ others) =
        ap (λ l. l ++ others) (cond-true (not (is_among front text)) _ _ (ap not is)) in
        let none : [] ≡ added = ap keys_of (sym left.0) ∙ tail in
        absurd (cc)
    by_known false (Some one) rest is left =
        let here : added ≡ text ∷ (filter (λ other. not (is_among front other)) (filter (λ other. not (same_text other text)) (first_texts back)) ++ others) =
        ap (λ l. l ++ others) (cond-true (not (is_among front text)) _ _ (ap not is)) in
        let all : one.0.now ∷ keys_of rest ≡ added = ap keys_of (sym left) ∙ tail in
        let same : one.0.now ≡ text = cc in
        ap (same_text text) same ∙ same_text_equivalence.refl text

    -- the next row has the text exactly if the text appears first
    pub is_next-first : (next : Option Lent) (rest : Rows) → AreLeft (drop count rows) next rest → is_next text next ≡ not (is_among front text)
    is_next-first next rest left = by_known (is_among front text) next rest refl left
