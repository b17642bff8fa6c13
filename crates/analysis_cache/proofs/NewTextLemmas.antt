-- The new texts of a list, as the list is passed from its front: what a text adds, and what the texts behind it add.
-- A text adds itself if it is neither kept nor among the texts before it. So the new texts of a front are a prefix of the new texts.
use Rattle.std.proofs.Common.{◌≡◌, Bool, true, false, not, cond, ◌||◌, ◌&&◌, List, [], ◌∷◌, ◌++◌, filter, All, refl, sym, ap, ◌∙◌, append-nil, true≢false}
use Rattle.std.specs.List.{list_any}
use Rattle.std.proofs.lemmas.List.Elements.{filter-append}
use Rattle.std.proofs.lemmas.List.Folds.{list_any-append}
use Rattle.std.proofs.lemmas.Bool.{cond-true, cond-false, and_right, or_parts}
use Rattle.group_text.specs.Texts.{GroupTextData}
use Rattle.std.proofs.lemmas.Map.Made.{All-is_member}
use Rattle.group_text.specs.Compared.{same_text, same_text_decides, same_text_equivalence}
use Rattle.group_text.specs.FirstTexts.{is_among, first_texts, new_texts}

-- one of two holds if the first does, or where the first doesn't and the second does
pub or_else : (a b : Bool) → (a || (not a && b)) ≡ (a || b)
or_else true b = refl
or_else false b = refl

module _ {X : Type 0} where
  -- a test that each passes leaves a list
  pub filter_every : (p : X → Bool) → ((x : X) → p x ≡ true) → (xs : List X) → filter p xs ≡ xs
  filter_every p every [] = refl
  filter_every p every (x ∷ xs) = cond-true (p x) (x ∷ filter p xs) (filter p xs) (every x) ∙ ap (λ l. x ∷ l) (filter_every p every xs)

  -- an item, and what neither of two tests takes out of those behind it
  neither_step : (a b : X → Bool) (x : X) (ys zs : List X) → filter (λ y. not (a y)) ys ≡ zs →
      filter (λ y. not (a y)) (cond (not (b x)) (x ∷ ys) ys) ≡ cond (not (a x || b x)) (x ∷ zs) zs
  neither_step a b x ys zs rest = by (a x) (b x) refl
    where
      by : (first second : Bool) → a x ≡ first →
          filter (λ y. not (a y)) (cond (not second) (x ∷ ys) ys) ≡ cond (not (first || second)) (x ∷ zs) zs
      by true true is = rest
      by false true is = rest
      by true false is = cond-false (not (a x)) _ _ (ap not is) ∙ rest
      by false false is = cond-true (not (a x)) _ _ (ap not is) ∙ ap (λ l. x ∷ l) rest

  -- what two tests take out, one after the other, is what either takes out
  pub filter_neither : (a b : X → Bool) (xs : List X) →
      filter (λ x. not (a x)) (filter (λ x. not (b x)) xs) ≡ filter (λ x. not (a x || b x)) xs
  filter_neither a b [] = refl
  filter_neither a b (x ∷ xs) = neither_step a b x (filter (λ y. not (b y)) xs) _ (filter_neither a b xs)

  -- an item and those behind it, one of which passes a test, where what passes it answers a second test alike
  list_any_step : (test p : X → Bool) (answer some : Bool) (x : X) (ys : List X) → (test x ≡ true → p x ≡ answer) →
      list_any test ys ≡ (answer && some) → list_any test (cond (p x) (x ∷ ys) ys) ≡ (answer && (test x || some))
  list_any_step test p answer some x ys alike rest = by (p x) (test x) answer refl refl refl
    where
      by : (kept passes same : Bool) → p x ≡ kept → test x ≡ passes → answer ≡ same →
          list_any test (cond kept (x ∷ ys) ys) ≡ (same && (passes || some))
      by true true true k t s = ap (λ b. b || list_any test ys) t
      by true true false k t s = absurd (true≢false (sym k ∙ alike t ∙ s))
      by true false same k t s = ap (λ b. b || list_any test ys) t ∙ rest ∙ ap (λ b. b && some) s
      by false true true k t s = absurd (true≢false (sym s ∙ sym (alike t) ∙ k))
      by false true false k t s = rest ∙ ap (λ b. b && some) s
      by false false same k t s = rest ∙ ap (λ b. b && some) s

  -- where what passes the one test answers the other alike, one of what the other leaves passes if one of all does and the answer is yes
  pub list_any-filter : (test p : X → Bool) (answer : Bool) → ((x : X) → test x ≡ true → p x ≡ answer) → (xs : List X) →
      list_any test (filter p xs) ≡ (answer && list_any test xs)
  list_any-filter test p answer alike [] = sym (and_right answer false refl)
  list_any-filter test p answer alike (x ∷ xs) =
      list_any_step test p answer (list_any test xs) x (filter p xs) (alike x) (list_any-filter test p answer alike xs)

-- texts that are one answer a question alike
pub alike_text : (question : GroupTextData → Bool) (text other : GroupTextData) → same_text text other ≡ true → question other ≡ question text
alike_text question text other same = ap question (sym ((same_text_decides text other).0 same))

-- a text is among the first appearances exactly if it is among the texts
pub is_among-first : (texts : List GroupTextData) (text : GroupTextData) → is_among (first_texts texts) text ≡ is_among texts text
is_among-first [] text = refl
is_among-first (first ∷ texts) text =
    ap (λ b. same_text text first || b)
    (list_any-filter (same_text text) (λ other. not (same_text other first)) (not (same_text text first))
    (alike_text (λ other. not (same_text other first)) text) (first_texts texts))
    ∙ or_else (same_text text first) (is_among (first_texts texts) text)
    ∙ ap (λ b. same_text text first || b) (is_among-first texts text)

-- a text is kept, once the new ones of some texts are, exactly if it was kept or is among those
pub is_among-kept : (kept texts : List GroupTextData) (text : GroupTextData) →
    is_among (kept ++ new_texts kept texts) text ≡ (is_among kept text || is_among texts text)
is_among-kept kept texts text =
    list_any-append (same_text text) kept (new_texts kept texts)
    ∙ ap (λ b. is_among kept text || b)
    (list_any-filter (same_text text) (λ other. not (is_among kept other)) (not (is_among kept text))
    (alike_text (λ other. not (is_among kept other)) text) (first_texts texts))
    ∙ or_else (is_among kept text) (is_among (first_texts texts) text)
    ∙ ap (λ b. is_among kept text || b) (is_among-first texts text)

-- each of some texts is among them
pub is_among-themselves : (texts : List GroupTextData) → All (λ text. is_among texts text ≡ true) texts
is_among-themselves texts = All-is_member same_text_equivalence texts

-- if nothing is kept, all distinct texts are new
pub new_texts-none_kept : (texts : List GroupTextData) → new_texts [] texts ≡ first_texts texts
new_texts-none_kept texts = filter_every (λ text. true) (λ text. refl) (first_texts texts)

-- the texts behind some others add what isn't among those
pub first_texts-append : (front back : List GroupTextData) →
    first_texts (front ++ back) ≡ first_texts front ++ filter (λ text. not (is_among front text)) (first_texts back)
first_texts-append [] back = sym (filter_every (λ text. true) (λ text. refl) (first_texts back))
first_texts-append (first ∷ front) back =
    let others : GroupTextData → Bool = λ other. not (same_text other first) in
    let added : List GroupTextData = filter (λ text. not (is_among front text)) (first_texts back) in
    ap (λ l. first ∷ l)
    (ap (filter others) (first_texts-append front back)
    ∙ filter-append others (first_texts front) added
    ∙ ap (λ l. filter others (first_texts front) ++ l) (filter_neither (λ other. same_text other first) (is_among front) (first_texts back)))

-- of texts behind some others those that are neither kept nor among the others
abbrev pub added_texts : List GroupTextData → List GroupTextData → List GroupTextData → List GroupTextData
added_texts kept front texts = filter (λ text. not (is_among kept text)) (filter (λ text. not (is_among front text)) texts)

-- the new texts of a front are a prefix of the new texts
new_texts-append : (kept front back : List GroupTextData) → new_texts kept (front ++ back) ≡ new_texts kept front ++ added_texts kept front (first_texts back)
new_texts-append kept front back =
    ap (filter (λ text. not (is_among kept text))) (first_texts-append front back)
    ∙ filter-append (λ text. not (is_among kept text)) (first_texts front) (filter (λ text. not (is_among front text)) (first_texts back))

-- the new texts behind a text
abbrev pub texts_behind : List GroupTextData → List GroupTextData → GroupTextData → List GroupTextData → List GroupTextData
texts_behind kept front text back = added_texts kept front (filter (λ other. not (same_text other text)) (first_texts back))

-- a text that is neither kept nor among those before it comes next among the new texts
pub new_texts-new : (kept front : List GroupTextData) (text : GroupTextData) (back : List GroupTextData) → is_among (kept ++ new_texts kept front) text ≡ false →
    new_texts kept (front ++ text ∷ back) ≡ new_texts kept front ++ text ∷ texts_behind kept front text back
new_texts-new kept front text back is =
    let parts = or_parts (is_among kept text) (is_among front text) (sym (is_among-kept kept front text) ∙ is) in
    let others : List GroupTextData = filter (λ other. not (same_text other text)) (first_texts back) in
    new_texts-append kept front (text ∷ back)
    ∙ ap (λ l. new_texts kept front ++ l)
    (ap (filter (λ other. not (is_among kept other))) (cond-true (not (is_among front text)) (text ∷ filter (λ other. not (is_among front other)) others) _ (ap not parts.1))
    ∙ cond-true (not (is_among kept text)) (text ∷ added_texts kept front others) _ (ap not parts.0))

-- one that is kept or among those before it adds none
pub new_texts-known : (kept front : List GroupTextData) (text : GroupTextData) → is_among (kept ++ new_texts kept front) text ≡ true →
    new_texts kept (front ++ text ∷ []) ≡ new_texts kept front
new_texts-known kept front text is =
    new_texts-append kept front (text ∷ [])
    ∙ ap (λ l. new_texts kept front ++ l) (none (is_among kept text) (is_among front text) refl (sym (is_among-kept kept front text) ∙ is))
    ∙ append-nil (new_texts kept front)
  where
    none : (stays stood : Bool) → is_among kept text ≡ stays → (stays || stood) ≡ true →
        filter (λ other. not (is_among kept other)) (cond (not stood) (text ∷ []) []) ≡ []
    none stays true stay some = refl
    none true false stay some = cond-false (not (is_among kept text)) (text ∷ []) [] (ap not stay)
    none false false stay some = absurd (true≢false (sym some))
