-- Where an analyst holds exactly the texts that are kept, it does so after what is done with them: new texts are analysed and kept, texts are
-- moved to the front, and the last ones are cut and released.
use Rattle.std.proofs.Common.{◌≡◌, ℕ, Bool, true, false, not, ◌&&◌, ◌||◌, inl, inr, List, [], ◌∷◌, ◌++◌, length, take, drop, All, refl, sym, ap, subst, ◌∙◌, append_assoc}
use Rattle.std.specs.List.{IsDistinct}
use Rattle.std.proofs.lemmas.List.{map-append, take-map, take-append-drop}
use Rattle.std.proofs.lemmas.List.Elements.{All-nil, All-cons}
use Rattle.std.proofs.lemmas.List.Folds.{list_any-append}
use Rattle.group_text.specs.Texts.{GroupTextData}
use Rattle.group_text.specs.Compared.{same_text}
use Rattle.group_text.specs.FirstTexts.{is_among, new_texts}
use Rattle.group_analysis.specs.Held.{TextSet, set_of, with_texts, without_texts}
use Rattle.group_analysis.specs.Using.{used_texts, to_front}
use Rattle.analysis_cache.specs.Keeping.{KeptData, IsKept, entry_texts, texts_of}
use Rattle.analysis_cache.specs.Adding.{FillsAll, LacksText}
use Rattle.analysis_cache.specs.Holding.{HoldsKept, HoldsNearlyKept}
use Rattle.analysis_cache.proofs.HeldLemmas.{same_set}
use Rattle.analysis_cache.proofs.UseLemmas.{apart_from, all_to_front-used, is_among-used}
use Rattle.analysis_cache.proofs.OrderLemmas.{among_all}

or_swap : (a b : Bool) → (a || b) ≡ (b || a)
or_swap true true = refl
or_swap true false = refl
or_swap false true = refl
or_swap false false = refl

-- the set of some texts, with more of them
set-grown : (texts more : List GroupTextData) → with_texts (set_of texts) more ≡ set_of (texts ++ more)
set-grown texts more = same_set (λ other.
    or_swap (is_among more other) (is_among texts other) ∙ sym (list_any-append (same_text other) texts more))

-- what is in a front is none of those behind it, if all are apart
none_behind : (front back : List GroupTextData) (text : GroupTextData) → IsDistinct same_text (front ++ back) → is_among front text ≡ true →
    is_among back text ≡ false
none_behind front [] text apart is = refl
none_behind front (next ∷ back) text apart is =
    let here : same_text text next ≡ false = apart_from front next back text apart is in
    let longer : is_among (front ++ next ∷ []) text ≡ true =
    list_any-append (same_text text) front (next ∷ []) ∙ ap (λ b. b || is_among (next ∷ []) text) is in
    let rest = none_behind (front ++ next ∷ []) back text (subst (IsDistinct same_text) (sym (append_assoc front (next ∷ []) back)) apart) longer in
    ap (λ b. b || is_among back text) here ∙ rest

left_out : (a b : Bool) → (a ≡ true → b ≡ false) → (not b && (a || b)) ≡ a
left_out true b none = ap (λ c. not c && true) (none refl)
left_out false true none = refl
left_out false false none = refl

-- the set of texts that are apart, without the last ones
set-cut : (texts : List GroupTextData) (room : ℕ) → IsDistinct same_text texts → without_texts (set_of texts) (drop room texts) ≡ set_of (take room texts)
set-cut texts room apart =
    let front = take room texts in
    let back = drop room texts in
    let whole : front ++ back ≡ texts = take-append-drop room texts in
    same_set (λ other.
    ap (λ list. not (is_among back other) && is_among list other) (sym whole)
    ∙ ap (λ b. not (is_among back other) && b) (list_any-append (same_text other) front back)
    ∙ left_out (is_among front other) (is_among back other) (none_behind front back other (subst (IsDistinct same_text) (sym whole) apart)))

absorb : (a b : Bool) → (a ≡ true → b ≡ true) → (a || b) ≡ b
absorb true b follows = sym (follows refl)
absorb false b follows = refl

-- a use of kept texts leaves the set of them
pub set-used : (present kept : List GroupTextData) → All (λ text. is_among kept text ≡ true) present → set_of (used_texts present kept) ≡ set_of kept
set-used present kept all = same_set (λ other.
    is_among-used present kept other ∙ absorb (is_among present other) (is_among kept other) (among_all (is_among kept) true present all other))

-- and so does that of one
pub set-front : (text : GroupTextData) (kept : List GroupTextData) → is_among kept text ≡ true → set_of (to_front text kept) ≡ set_of kept
set-front text kept is =
    ap (λ texts. set_of texts) (all_to_front-used (text ∷ []) kept) ∙ set-used (text ∷ []) kept one
  where
    one : All (λ text. is_among kept text ≡ true) (text ∷ [])
    one = All-cons (λ text. is_among kept text ≡ true) text [] is (All-nil (λ text. is_among kept text ≡ true))

-- if nothing is done it holds them still
pub HoldsNearlyKept-same : (kept : KeptData) (held : TextSet) → HoldsKept kept held → HoldsNearlyKept kept held
HoldsNearlyKept-same kept held holds = record { further = []; one = inl refl; are = holds }

-- what was analysed is held, and kept
pub HoldsKept-filled : (old new : KeptData) (before after : List GroupTextData) (held_before held_after : TextSet) (texts : List GroupTextData) (count : ℕ) →
    FillsAll old new before after held_before held_after texts count → HoldsKept old held_before → HoldsKept new held_after
HoldsKept-filled old new before after held_before held_after texts count fills holds =
    let fresh = new_texts (texts_of old) texts in
    let now : texts_of new ≡ texts_of old ++ fresh =
    ap entry_texts fills.kept ∙ map-append _ old.entries fills.more ∙ ap (λ l. texts_of old ++ l) fills.added in
    fills.held ∙ ap (λ held. with_texts held fresh) holds ∙ set-grown (texts_of old) fresh ∙ ap (λ l. set_of l) (sym now)

-- where a text that was analysed can't be kept, it is held besides
pub HoldsNearlyKept-lacks : (old new : KeptData) (before after : List GroupTextData) (held_before held_after : TextSet) (text : GroupTextData) →
    LacksText old new before after held_before held_after text → HoldsKept old held_before → HoldsNearlyKept new held_after
HoldsNearlyKept-lacks old new before after held_before held_after text lacks holds = record {
  further = lacks.further;
  one = elim lacks.one [
    | inl none ↦ inl none
    | inr one ↦ inr (ap length one)
  ];
  are =
      lacks.held ∙ ap (λ held. with_texts held lacks.further) holds
      ∙ ap (λ kept. with_texts (set_of (texts_of kept)) lacks.further) (sym lacks.kept);
}

-- what is cut is released
pub HoldsKept-cut : (old new : KeptData) (room : ℕ) (held_before held_after : TextSet) → IsKept old.entries → new.entries ≡ take room old.entries →
    held_after ≡ without_texts held_before (drop room (texts_of old)) → HoldsKept old held_before → HoldsKept new held_after
HoldsKept-cut old new room held_before held_after kept entries held holds =
    held ∙ ap (λ one. without_texts one (drop room (texts_of old))) holds ∙ set-cut (texts_of old) room kept.apart
    ∙ ap (λ l. set_of l) (take-map _ room old.entries ∙ sym (ap entry_texts entries))
