-- What is kept while texts are passed: the new ones of the texts so far were analysed, are held and are kept. A text that is kept changes
-- nothing, one that isn't is added, and where it can't be, what was kept is kept.
use Rattle.std.proofs.Common.{◌≡◌, ℕ, ◌+◌, Bool, true, false, List, [], ◌∷◌, ◌++◌, length, Option, None, Some, is_none, is_some, not, ◌||◌, get_or, All, Contains, inl, inr, refl, sym, ap, subst, ◌∙◌, append_assoc, append-nil, length-append, arith}
use Rattle.std.proofs.Math.Bool.{or-true}
use Rattle.std.proofs.lemmas.Bool.{not-true, not-false}
use Rattle.std.proofs.lemmas.List.{length-map, map-append}
use Rattle.group_text.specs.Texts.{GroupTextData}
use Rattle.group_text.specs.FirstTexts.{is_among, new_texts}
use Rattle.group_analysis.specs.Held.{TextSet, with_texts, without_texts}
use Rattle.group_analysis.specs.Using.{used_texts, within, past, kept_after, cut_after}
use Rattle.analysis_cache.specs.Keeping.{Entry, KeptData, KeepsAll, KeepsSome, entry_texts, texts_of}
use Rattle.analysis_cache.specs.Adding.{AddsText, FillsAll, LacksText}
use Rattle.analysis_cache.proofs.NewTextLemmas.{is_among-kept, is_among-themselves, new_texts-known, new_texts-new, texts_behind}
use Rattle.analysis_cache.proofs.HeldLemmas.{with_texts-append}
use Rattle.analysis_cache.proofs.UseLemmas.{used_texts-fresh}

-- a text is kept exactly if there is code of it
pub is_some-among : {Lent : Type 0} (code : Option Lent) (among : Bool) → is_none code ≡ not among → among ≡ is_some code
is_some-among None among is = not-true among (sym is)
is_some-among (Some code) among is = not-false among (sym is)

-- nothing was passed
pub FillsAll-none : (kept : KeptData) (before : List GroupTextData) (held : TextSet) → FillsAll kept kept before before held held [] 0
FillsAll-none kept before held =
    record {
      more = [];
      kept = sym (append-nil kept.entries);
      bound = refl;
      added = refl;
      analysed = sym (append-nil before);
      held = refl;
      number = refl;
    }

module _ (old now : KeptData) (before after : List GroupTextData) (held_before held_after : TextSet) (front : List GroupTextData) (count : ℕ)
    (fills : FillsAll old now before after held_before held_after front count) where
  -- as many more are kept as the count says
  pub length-FillsAll : length now.entries ≡ length old.entries + count
  length-FillsAll =
      let more : length fills.more ≡ count = sym (length-map fills.more _) ∙ ap length fills.added ∙ sym fills.number in
      omega (arith, ap length fills.kept, length-append old.entries fills.more, more)

  -- the texts that are kept: those that were, and the new ones of the texts so far
  pub texts_of-FillsAll : texts_of now ≡ texts_of old ++ new_texts (texts_of old) front
  texts_of-FillsAll = ap entry_texts fills.kept ∙ map-append _ old.entries fills.more ∙ ap (λ l. texts_of old ++ l) fills.added

  -- each of the texts so far is kept
  pub each_kept : All (λ text. is_among (texts_of now) text ≡ true) front
  each_kept = λ k d inside.
      let text = get_or front k d in
      ap (λ kept. is_among kept text) texts_of-FillsAll
      ∙ is_among-kept (texts_of old) front text
      ∙ ap (λ held. is_among (texts_of old) text || held) (is_among-themselves front k d inside)
      ∙ or-true (is_among (texts_of old) text)

  -- a text that is kept changes nothing
  pub FillsAll-known : (text : GroupTextData) → is_among (texts_of now) text ≡ true →
      FillsAll old now before after held_before held_after (front ++ text ∷ []) count
  FillsAll-known text is =
      let known = new_texts-known (texts_of old) front text (ap (λ l. is_among l text) (sym texts_of-FillsAll) ∙ is) in
      record {
        more = fills.more;
        kept = fills.kept;
        bound = fills.bound;
        added = fills.added ∙ sym known;
        analysed = fills.analysed ∙ ap (λ l. before ++ l) (sym known);
        held = fills.held ∙ ap (with_texts held_before) (sym known);
        number = fills.number ∙ ap length (sym known);
      }

  module _ (next : KeptData) (later : List GroupTextData) (held_later : TextSet) (text : GroupTextData)
      (is : is_among (texts_of now) text ≡ false) where
    -- with a text that isn't kept the new texts go on
    goes_on : (back : List GroupTextData) →
        new_texts (texts_of old) (front ++ text ∷ back) ≡ new_texts (texts_of old) front ++ text ∷ texts_behind (texts_of old) front text back
    goes_on back = new_texts-new (texts_of old) front text back (ap (λ l. is_among l text) (sym texts_of-FillsAll) ∙ is)

    -- one that isn't kept is one more
    pub FillsAll-added : AddsText now next after later held_after held_later text →
        FillsAll old next before later held_before held_later (front ++ text ∷ []) (count + 1)
    FillsAll-added adds =
        record {
          more = fills.more ++ (text, adds.code) ∷ [];
          kept = adds.kept ∙ ap (λ l. l ++ (text, adds.code) ∷ []) fills.kept ∙ append_assoc old.entries fills.more ((text, adds.code) ∷ []);
          bound = adds.bound ∙ fills.bound;
          added = map-append _ fills.more ((text, adds.code) ∷ []) ∙ ap (λ l. l ++ text ∷ []) fills.added ∙ sym (goes_on []);
          analysed =
              adds.analysed ∙ ap (λ l. l ++ text ∷ []) fills.analysed
              ∙ append_assoc before (new_texts (texts_of old) front) (text ∷ [])
              ∙ ap (λ l. before ++ l) (sym (goes_on []));
          held =
              adds.held ∙ ap (λ held. with_texts held (text ∷ [])) fills.held
              ∙ with_texts-append held_before (new_texts (texts_of old) front) (text ∷ [])
              ∙ ap (with_texts held_before) (sym (goes_on []));
          number = omega (arith, fills.number, ap length (goes_on []), length-append (new_texts (texts_of old) front) (text ∷ []));
        }

    -- if it can't be kept, a prefix of the new texts is
    pub KeepsSome-lacking : LacksText now next after later held_after held_later text → (back : List GroupTextData) →
        KeepsSome old next before later held_before held_later (front ++ text ∷ back)
    KeepsSome-lacking lacks back =
        let behind = texts_behind (texts_of old) front text back in
        let here : new_texts (texts_of old) (front ++ text ∷ back) ≡ entry_texts fills.more ++ text ∷ behind =
        goes_on back ∙ ap (λ l. l ++ text ∷ behind) (sym fills.added) in
        let so_far : after ≡ before ++ entry_texts fills.more = fills.analysed ∙ ap (λ l. before ++ l) (sym fills.added) in
        let so_held : held_after ≡ with_texts held_before (entry_texts fills.more) = fills.held ∙ ap (with_texts held_before) (sym fills.added) in
        let analysed : later ≡ before ++ (entry_texts fills.more ++ lacks.further) =
        lacks.analysed ∙ ap (λ l. l ++ lacks.further) so_far ∙ append_assoc before (entry_texts fills.more) lacks.further in
        let held : held_later ≡ with_texts held_before (entry_texts fills.more ++ lacks.further) =
        lacks.held ∙ ap (λ held. with_texts held lacks.further) so_held ∙ with_texts-append held_before (entry_texts fills.more) lacks.further in
        let kept : next.entries ≡ old.entries ++ fills.more = ap (λ one. one.entries) lacks.kept ∙ fills.kept in
        let bound : next.bound ≡ old.bound = ap (λ one. one.bound) lacks.kept ∙ fills.bound in
        elim lacks.one [
          | inl none ↦ record {
            more = fills.more;
            further = lacks.further;
            rest = text ∷ behind;
            kept = kept;
            bound = bound;
            front = here ∙ ap (λ l. entry_texts fills.more ++ (l ++ text ∷ behind)) (sym none);
            analysed = analysed;
            held = held;
            one = inl none;
          }
          | inr made ↦ record {
            more = fills.more;
            further = lacks.further;
            rest = behind;
            kept = kept;
            bound = bound;
            front = here ∙ ap (λ l. entry_texts fills.more ++ (l ++ behind)) (sym made);
            analysed = analysed;
            held = held;
            one = inr (ap length made);
          }
        ]

  -- once the texts were put first, all is kept that is to be kept
  pub KeepsAll-used : (new : KeptData) (last : List GroupTextData) (held_last : TextSet) →
      texts_of new ≡ kept_after now.bound front (texts_of now) → ((entry : Entry) → Contains new.entries entry → Contains now.entries entry) →
      new.bound ≡ now.bound → last ≡ after → held_last ≡ without_texts held_after (cut_after now.bound front (texts_of now)) →
      KeepsAll old new before last held_before held_last front count
  KeepsAll-used new last held_last texts fewer bound analysed held =
      let order : used_texts front (texts_of now) ≡ used_texts front (texts_of old) =
      ap (used_texts front) texts_of-FillsAll ∙ used_texts-fresh front (texts_of old) in
      record {
        more = fills.more;
        added = fills.added;
        texts = texts ∙ ap (within now.bound front) order ∙ ap (λ most. kept_after most front (texts_of old)) fills.bound;
        codes = λ entry there. subst (λ entries. Contains entries entry) fills.kept (fewer entry there);
        bound = bound ∙ fills.bound;
        analysed = analysed ∙ fills.analysed;
        held =
            held
            ∙ ap (λ some. without_texts held_after (past now.bound front some)) order
            ∙ ap (λ most. without_texts held_after (cut_after most front (texts_of old))) fills.bound
            ∙ ap (λ some. without_texts some (cut_after old.bound front (texts_of old))) fills.held;
        number = fills.number;
      }
