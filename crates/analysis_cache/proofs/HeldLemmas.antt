-- Sets of texts that grow and shrink by lists: which is the set after one text more.
use Rattle.std.proofs.Common.{◌≡◌, Bool, true, false, not, ◌&&◌, ◌||◌, List, [], ◌∷◌, ◌++◌, refl, sym, ap, ◌∙◌}
use Rattle.std.proofs.lemmas.List.Folds.{list_any-append}
use Rattle.group_text.specs.Texts.{GroupTextData}
use Rattle.group_text.specs.Compared.{same_text}
use Rattle.group_text.specs.FirstTexts.{is_among}
use Rattle.group_analysis.specs.Held.{TextSet, with_text, with_texts, without_text, without_texts}

-- sets with the same texts are one
pub same_set : {one other : TextSet} → ((text : GroupTextData) → one text ≡ other text) → one ≡ other
same_set same i text = same text i

-- one of three, however they are read
or_three : (a b c : Bool) → (a || (b || c)) ≡ ((b || (a || false)) || c)
or_three true true c = refl
or_three true false c = refl
or_three false true c = refl
or_three false false c = refl

-- the set with some texts and one more
pub with_texts-push : (held : TextSet) (texts : List GroupTextData) (text : GroupTextData) →
    with_text (with_texts held texts) text ≡ with_texts held (texts ++ text ∷ [])
with_texts-push held texts text = same_set (λ other.
    or_three (same_text other text) (is_among texts other) (held other)
    ∙ ap (λ b. b || held other) (sym (list_any-append (same_text other) texts (text ∷ []))))

or_none : (a b : Bool) → (a || b) ≡ ((a || false) || b)
or_none true b = refl
or_none false b = refl

-- the set with one text
pub with_texts-one : (held : TextSet) (text : GroupTextData) → with_text held text ≡ with_texts held (text ∷ [])
with_texts-one held text = same_set (λ other. or_none (same_text other text) (held other))

or_more : (a b c : Bool) → (a || (b || c)) ≡ ((b || a) || c)
or_more true true c = refl
or_more true false c = refl
or_more false true c = refl
or_more false false c = refl

-- the set with some texts and then others
pub with_texts-append : (held : TextSet) (texts more : List GroupTextData) →
    with_texts (with_texts held texts) more ≡ with_texts held (texts ++ more)
with_texts-append held texts more = same_set (λ other.
    or_more (is_among more other) (is_among texts other) (held other)
    ∙ ap (λ b. b || held other) (sym (list_any-append (same_text other) texts more)))

neither : (a b c : Bool) → (not a && (not b && c)) ≡ (not (a || b) && c)
neither true b c = refl
neither false b c = refl

-- the set without some texts and without the one before them
pub without_texts-more : (held : TextSet) (text : GroupTextData) (texts : List GroupTextData) →
    without_text (without_texts held texts) text ≡ without_texts held (text ∷ texts)
without_texts-more held text texts = same_set (λ other. neither (same_text other text) (is_among texts other) (held other))
