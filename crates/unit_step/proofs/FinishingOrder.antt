-- What a finish leaves of what is kept is what a build leaves, with the texts of the last build in front: what it has analysed stands behind, and
-- is among the present texts.
use Rattle.std.proofs.Common.{◌≡◌, ℕ, Bool, true, false, not, inl, inr, List, ◌++◌, length, get_or, All, Option, refl, sym, ap, subst, ◌∙◌, arith, length-append}
use Rattle.std.proofs.lemmas.List.{get_or_append_left}
use Rattle.std.proofs.lemmas.List.Elements.{All-filter, All-weaker, filter_passes}
use Rattle.switch_paths.specs.Graphs.{GraphData}
use Rattle.switch_paths.specs.Rails.{IsRailed, IsSound}
use Rattle.group_meaning.proofs.UniqueGroups.{unique}
use Rattle.group_text.specs.Texts.{GroupTextData}
use Rattle.group_text.specs.FirstTexts.{is_among, first_texts, new_texts}
use Rattle.group_analysis.specs.Using.{used_texts, kept_after}
use Rattle.analysis_cache.proofs.NewTextLemmas.{is_among-first, is_among-kept, is_among-themselves}
use Rattle.analysis_cache.proofs.OrderLemmas.{kept_after-fresh, new_texts-used, used-append_new}
use Rattle.circuit_texts.specs.Sizes.{NoneRefused}
use Rattle.circuit_texts.specs.Told.{told}
use Rattle.circuit_texts.specs.Building.{HasTexts, Builds, Fills, BuildsSome, IsCutOff}
use Rattle.kept_parts.specs.Uses.{some_texts}
use Rattle.kept_parts.proofs.PlaceLemmas.{or_true}
use Rattle.machine_laws.specs.Machines.{MachineData}
use Rattle.machine_laws.specs.Fitting.{Covers, FitsGraph}
use Rattle.vicinity.specs.Wides.{WideData}
use Rattle.machine_laws.specs.Editing.{KeepsCoded, Finishes, MakesReady}
use Rattle.machine_laws.specs.Beginnings.{AreInOrder, HasLast}
use Rattle.unit_step.specs.LastTexts.{IsLeft}
use Rattle.unit_step.specs.Holding.{HoldsNextIn, wide_after}
use Rattle.unit_step.specs.Waking.{Wakes}
use Rattle.unit_step.specs.declared.holding.Holding.{Holding}
use Rattle.machine_laws.proofs.KeptLemmas.{among_more, stale_told}
use Rattle.unit_step.proofs.FinishingFits.{same_texts}
use Rattle.machine_laws.proofs.LastTextsGroups.{HasLast-order, FitsGraph-last}
use Rattle.unit_step.proofs.HoldingLemmas.{FitsGraph-next, next_woken}

-- what holds of each of some items holds of each of a prefix of them
all_front : {X : Type 0} (P : X → Type 0) (xs ys : List X) → All P (xs ++ ys) → All P xs
all_front P xs ys all i d inside =
    subst P (get_or_append_left xs ys d i inside) (all i d (omega (arith, inside, length-append xs ys)))

-- a text that isn't kept is not among what is kept
not_among : (b : Bool) → not b ≡ true → b ≡ false
not_among true none = absurd cc
not_among false none = refl

module _ (kept texts : List GroupTextData) where
  -- the new ones of some texts are among these
  new_among : All (λ text. is_among texts text ≡ true) (new_texts kept texts)
  new_among =
      All-filter (λ text. not (is_among kept text)) (λ text. is_among texts text ≡ true) (first_texts texts)
      (All-weaker (λ text. is_among (first_texts texts) text ≡ true) (λ text. is_among texts text ≡ true)
      (λ text is. sym (is_among-first texts text) ∙ is) (first_texts texts) (is_among-themselves (first_texts texts)))

  -- and none of them was kept
  none_kept : All (λ text. is_among kept text ≡ false) (new_texts kept texts)
  none_kept =
      All-weaker (λ text. not (is_among kept text) ≡ true) (λ text. is_among kept text ≡ false) (λ text is. not_among (is_among kept text) is)
      (new_texts kept texts) (filter_passes (λ text. not (is_among kept text)) (first_texts texts))

module _ (large : ℕ) (g : GraphData) (last kept : List GroupTextData) (there : All (λ text. is_among kept text ≡ true) last) where
  -- the same is new where the texts of the last build are in front
  cut_off_some : (now before after : List GroupTextData) → BuildsSome large g kept now before after →
      BuildsSome large g (used_texts last kept) (used_texts last now) before after
  cut_off_some now before after some =
      let texts = some.news.texts in
      let none : All (λ text. is_among kept text ≡ false) some.more =
      all_front (λ text. is_among kept text ≡ false) some.more (some.further ++ some.rest)
      (subst (All (λ text. is_among kept text ≡ false)) (sym some.news.fresh_are ∙ some.front) (none_kept kept texts)) in
      record {
        fresh = some.fresh;
        more = some.more;
        further = some.further;
        rest = some.rest;
        news = record { texts = texts; has = some.news.has; fresh_are = some.news.fresh_are ∙ sym (new_texts-used last kept texts there) };
        front = some.front;
        kept = ap (used_texts last) some.kept ∙ used-append_new last kept some.more there none;
        analysed = some.analysed;
        one = some.one;
      }

  -- so a build that was cut off was, with these texts in front
  pub IsCutOff-used : (now before after : List GroupTextData) → IsCutOff large g kept now before after →
      IsCutOff large g (used_texts last kept) (used_texts last now) before after
  IsCutOff-used now before after cut =
      elim cut [
        | inl (same, told) ↦ inl (ap (used_texts last) same, told)
        | inr some ↦ inr (cut_off_some now before after some)
      ]

  module _ (filled before after : List GroupTextData) (count : ℕ) (fills : Fills large g kept filled before after count) where
    -- the texts of the last build are kept still
    pub last_filled : All (λ text. is_among filled text ≡ true) last
    last_filled =
        All-weaker (λ text. is_among kept text ≡ true) (λ text. is_among filled text ≡ true)
        (λ text is. ap (λ texts. is_among texts text) fills.kept ∙ among_more kept fills.fresh text is) last there

    -- and all texts of the machine's parts are
    pub used_filled : (m : MachineData) → FitsGraph g m → All (λ text. is_among filled text ≡ true) (some_texts m.uses)
    used_filled m fits i d inside =
        let texts = fills.news.texts in
        let text = get_or (some_texts m.uses) i d in
        let all = unique g fits.covers.groups.groups fills.news.has.groups fits.covers.are.are fills.news.has.are in
        let present : is_among texts text ≡ true =
        ap (λ list. is_among list text) (fills.news.has.texts_are ∙ ap (told g) (sym all))
        ∙ (sym (same_texts g m fits.covers (stale_told g m fits) text) ∙ is_among-themselves (some_texts m.uses) i d inside) in
        ap (λ list. is_among list text) (fills.kept ∙ ap (λ fresh. kept ++ fresh) fills.news.fresh_are)
        ∙ (is_among-kept kept texts text ∙ or_true (is_among kept text) (is_among texts text) present)

    -- once the texts that left were used, and what is past the bound was cut, the build is done
    pub Builds-left : (bound : Option ℕ) (present now : List GroupTextData) → HasLast g present → IsLeft bound last filled present now →
        Builds large g bound (used_texts last kept) (used_texts present now) before after count
    Builds-left bound present now has left =
        let texts = fills.news.texts in
        let same : present ≡ texts = has fills.news.has.groups fills.news.has.are ∙ sym fills.news.has.texts_are in
        let fresh_are : fills.fresh ≡ new_texts (used_texts last kept) present =
        fills.news.fresh_are ∙ (ap (new_texts kept) (sym same) ∙ sym (new_texts-used last kept present there)) in
        let fresh_there : All (λ text. is_among present text ≡ true) fills.fresh =
        subst (λ list. All (λ text. is_among list text ≡ true) fills.fresh) (sym same)
        (subst (All (λ text. is_among texts text ≡ true)) (sym fills.news.fresh_are) (new_among kept texts)) in
        record {
          present = present;
          has = subst (HasTexts large g) (sym same) fills.news.has;
          kept = left ∙ (ap (λ list. kept_after bound present (used_texts last list)) fills.kept ∙ kept_after-fresh bound present last kept fills.fresh fresh_there);
          analysed = fills.analysed ∙ ap (λ list. before ++ list) fresh_are;
          number = fills.number ∙ ap length fresh_are;
        }

-- what is kept says nothing of the last texts, nor of what is stepped by vicinities
keeps_same : (old mid : MachineData) (last : List GroupTextData) (wide : Option WideData) → KeepsCoded old mid →
    KeepsCoded old (record mid { last = last; wide = wide })
keeps_same old mid last wide keeps = record {
  groups = keeps.groups;
  parts = keeps.parts;
  marks = keeps.marks;
  state = keeps.state;
  moves = keeps.moves;
  placed = keeps.placed;
}

-- where the texts of the last build are those of the parts, in order, they are those of the graph's groups
pub HasLast-settled : (g : GraphData) (old mid new : MachineData) → MakesReady g old mid → new ≡ record mid { last = new.last } →
    AreInOrder new.parts new.uses new.last → HasLast g new.last
HasLast-settled g old mid new makes_ready same order =
    HasLast-order g mid makes_ready.fits.covers (stale_told g mid makes_ready.fits) new.last (subst (λ (m : MachineData). AreInOrder m.parts m.uses new.last) same order)

-- so the machine is finished
pub Finishes-settled : (g : GraphData) (old mid new : MachineData) → MakesReady g old mid → new ≡ record mid { last = new.last } →
    AreInOrder new.parts new.uses new.last → Finishes g old new
Finishes-settled g old mid new makes_ready same order =
    subst (Finishes g old) (sym same) (record {
      fits = FitsGraph-last g mid makes_ready.fits new.last;
      last = HasLast-settled g old mid new makes_ready same order;
      members = makes_ready.members;
      still = keeps_same old mid new.last mid.wide makes_ready.still;
    })

-- a machine that was woken, and whose stale parts are held, as before or anew, fits the graph
pub MakesReady-next : (large : ℕ) (g : GraphData) (old mid new : MachineData) (coded : List ℕ) (holding : Option Holding) → Covers g old → Wakes g coded old mid →
    NoneRefused large g → IsRailed g → IsSound old.state → HoldsNextIn large g old coded holding →
    new ≡ record mid { wide = wide_after large mid.wide holding } → MakesReady g old new
MakesReady-next large g old mid new coded holding covers wakes few railed sound next same =
    subst (MakesReady g old) (sym same) (record {
      fits = FitsGraph-next large g mid wakes.ready few railed (subst IsSound (sym wakes.state) sound) holding
          (next_woken g old mid coded covers wakes large holding next);
      last = wakes.last;
      members = wakes.members;
      still = keeps_same old mid mid.last (wide_after large mid.wide holding) wakes.still;
    })
