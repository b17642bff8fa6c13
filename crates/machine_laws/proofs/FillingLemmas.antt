-- What a fill of what is kept makes of a build: where the new texts of the graph's groups were analysed and are kept, the build is done once all
-- texts stand in front; and it is cut off where memory was wanting.
use Rattle.std.proofs.Common.{◌≡◌, ℕ, inl, inr, List, [], ◌++◌, length, Result, Ok, Err, OnErr, refl, sym, ap, subst, ◌∙◌, append-nil}
use Rattle.std.proofs.lemmas.List.{map-append}
use Rattle.switch_paths.specs.Graphs.{GraphData}
use Rattle.group_text.specs.Texts.{GroupTextData}
use Rattle.group_text.specs.FirstTexts.{first_texts, new_texts}
use Rattle.group_analysis.specs.Held.{TextSet}
use Rattle.group_analysis.specs.Using.{within, kept_after}
use Rattle.analysis_cache.specs.Keeping.{Entry, KeptData, KeepsSome, IsGrown, entry_texts, texts_of}
use Rattle.analysis_cache.specs.Adding.{FillsAll}
use Rattle.analysis_cache.proofs.UseLemmas.{used_texts-fresh}
use Rattle.analysis_cache.proofs.DistinctLemmas.{new_texts-first, kept_after-first}
use Rattle.circuit_texts.specs.Building.{HasTexts, BuildsFresh, Builds, Fills, IsCutOff}

-- the texts of what stands behind what was kept stand behind its texts
texts_grown : (old new : KeptData) (more : List Entry) → new.entries ≡ old.entries ++ more → texts_of new ≡ texts_of old ++ entry_texts more
texts_grown old new more kept = ap entry_texts kept ∙ map-append _ old.entries more

-- what holds anyway holds at a fault
pub on_err : {T E P : Type 0} (result : Result T E) → P → OnErr result P
on_err (Ok value) fact = tt
on_err (Err fault) fact = fact

-- if nothing is added what is kept only grew
pub IsGrown-same : (kept : KeptData) → IsGrown kept kept
IsGrown-same kept = record { more = []; grown = sym (append-nil kept.entries); bound = refl }

module _ (large : ℕ) (g : GraphData) (old new : KeptData) (before after : List GroupTextData) (held_before held_after : TextSet) (texts : List GroupTextData) where
  -- a fill lets it grow, whether or not memory was wanting
  pub IsGrown-filled : (count : ℕ) → FillsAll old new before after held_before held_after texts count → IsGrown old new
  IsGrown-filled count fills = record { more = fills.more; grown = fills.kept; bound = fills.bound }

  pub IsGrown-cut_off : KeepsSome old new before after held_before held_after texts → IsGrown old new
  IsGrown-cut_off keeps = record { more = keeps.more; grown = keeps.kept; bound = keeps.bound }

  -- the texts that were handed in are these, the new ones of which a build of the graph has analysed
  module _ (present : List GroupTextData) (same : texts ≡ present) (fresh : BuildsFresh large g (texts_of old) (new_texts (texts_of old) present)) where
    fresh_read : BuildsFresh large g (texts_of old) (new_texts (texts_of old) texts)
    fresh_read = subst (λ list. BuildsFresh large g (texts_of old) (new_texts (texts_of old) list)) (sym same) fresh

    -- where all new texts were analysed it is done
    pub Fills-filled : (count : ℕ) → FillsAll old new before after held_before held_after texts count →
        Fills large g (texts_of old) (texts_of new) before after count
    Fills-filled count fills = record {
      fresh = new_texts (texts_of old) texts;
      news = fresh_read;
      kept = texts_grown old new fills.more fills.kept ∙ ap (λ l. texts_of old ++ l) fills.added;
      analysed = fills.analysed;
      number = fills.number;
    }

    -- where not all could be kept, the build was cut off
    pub cut_off_front : KeepsSome old new before after held_before held_after texts → IsCutOff large g (texts_of old) (texts_of new) before after
    cut_off_front keeps = inr (record {
      fresh = new_texts (texts_of old) texts;
      more = entry_texts keeps.more;
      further = keeps.further;
      rest = keeps.rest;
      news = fresh_read;
      front = keeps.front;
      kept = texts_grown old new keeps.more keeps.kept;
      analysed = keeps.analysed;
      one = keeps.one;
    })

    -- and it may be cut off after all were kept
    pub cut_off_end : (count : ℕ) → FillsAll old new before after held_before held_after texts count →
        IsCutOff large g (texts_of old) (texts_of new) before after
    cut_off_end count fills = inr (record {
      fresh = new_texts (texts_of old) texts;
      more = entry_texts fills.more;
      further = [];
      rest = [];
      news = fresh_read;
      front = sym fills.added ∙ sym (append-nil (entry_texts fills.more));
      kept = texts_grown old new fills.more fills.kept;
      analysed = fills.analysed ∙ ap (λ l. before ++ l) (sym fills.added ∙ sym (append-nil (entry_texts fills.more)));
      one = inl refl;
    })

-- once all texts of the graph's groups were put in front, by way of the distinct ones, the build is done
pub Builds-first : (large : ℕ) (g : GraphData) (old filled : KeptData) (before after : List GroupTextData) (held_before held_after : TextSet)
    (present known now : List GroupTextData) (count : ℕ) → HasTexts large g present → known ≡ first_texts present →
    FillsAll old filled before after held_before held_after known count → now ≡ kept_after filled.bound known (texts_of filled) →
    Builds large g old.bound (texts_of old) now before after count
Builds-first large g old filled before after held_before held_after present known now count has known_are fills first = record {
  present = present;
  has = has;
  kept =
      first ∙ ap (λ bound. kept_after bound known (texts_of filled)) fills.bound
      ∙ ap (kept_after old.bound known) (texts_grown old filled fills.more fills.kept ∙ ap (λ l. texts_of old ++ l) fills.added)
      ∙ ap (within old.bound known) (used_texts-fresh known (texts_of old))
      ∙ ap (λ texts. kept_after old.bound texts (texts_of old)) known_are
      ∙ kept_after-first old.bound present (texts_of old);
  analysed = fills.analysed ∙ ap (λ l. before ++ l) same;
  number = fills.number ∙ ap length same;
}
  where
    same : new_texts (texts_of old) known ≡ new_texts (texts_of old) present
    same = ap (new_texts (texts_of old)) known_are ∙ new_texts-first (texts_of old) present
