-- The texts of a graph in front of what is kept. After a build they stand there, so a further one finds none new and moves none; and they stand there
-- still where a build was cut off.
use Rattle.std.proofs.Common.{◌≡◌, ℕ, inl, inr, List, [], ◌∷◌, ◌++◌, length, Option, None, refl, sym, ap, subst, ◌∙◌, append-nil, arith}
use Rattle.std.specs.Prelude.{Result, Ok, Err, IfOk}
use Rattle.switch_paths.specs.Graphs.{GraphData}
use Rattle.group_meaning.specs.Groups.{Group}
use Rattle.group_meaning.proofs.UniqueGroups.{unique}
use Rattle.group_text.specs.Texts.{GroupTextData}
use Rattle.group_text.specs.FirstTexts.{new_texts}
use Rattle.group_analysis.specs.Using.{used_texts}
use Rattle.analysis_cache.proofs.SettleLemmas.{none_is_new_again, used_texts-again}
use Rattle.circuit_texts.specs.declared.texts.BuildFault.{BuildFault}
use Rattle.circuit_texts.specs.Building.{Builds, HasTexts}
use Rattle.circuit_texts.specs.Told.{told}
use Rattle.column_stage.specs.Standing.{IsCutInColumns, StandFirst}
use Rattle.column_stage.proofs.FrontLemmas.{kept_alone}

-- two lists of a graph's texts are one, whatever the groups may be that have none
texts_same : (large other : ℕ) (g : GraphData) (texts others : List GroupTextData) → HasTexts large g texts → HasTexts other g others → others ≡ texts
texts_same large other g texts others one two =
    two.texts_are ∙ ap (λ (groups : List Group). told g groups) (unique g two.groups one.groups two.are one.are) ∙ sym one.texts_are

-- once a build was done, the texts of the graph stand in front of what is kept
pub built_stands_first : (large : ℕ) (g : GraphData) (bound : Option ℕ) (old new asked told : List GroupTextData) (count : ℕ) →
    Builds large g bound old new asked told count → StandFirst large g new
built_stands_first large g bound old new asked told count builds = record {
  present = builds.present;
  has = builds.has;
  none = ap (λ (kept : List GroupTextData). new_texts kept builds.present) builds.kept ∙ none_is_new_again bound builds.present old;
  first = ap (used_texts builds.present) builds.kept ∙ used_texts-again bound builds.present old ∙ sym builds.kept;
}

-- where they stand there, a build without a bound analyses nothing, and leaves what is kept
pub first_builds : (large : ℕ) (g : GraphData) (kept asked : List GroupTextData) → StandFirst large g kept → Builds large g None kept kept asked asked 0
first_builds large g kept asked first = record {
  present = first.present;
  has = first.has;
  kept = sym first.first;
  analysed = sym (append-nil asked) ∙ ap (λ (texts : List GroupTextData). asked ++ texts) (sym first.none);
  number = ap length (sym first.none);
}

-- of a list that is nothing the front is nothing
nothing_in : {X : Type 0} (front rest : List X) → front ++ rest ≡ [] → front ≡ []
nothing_in [] rest none = refl
nothing_in (x ∷ front) rest none = absurd (omega (arith, ap length none))

-- where a build ran out of memory that accepts other groups, they stand there still
pub stands_cut : (made large : ℕ) (g : GraphData) (bound : Option ℕ) (kept new asked told : List GroupTextData) → StandFirst made g kept →
    IsCutInColumns large g bound kept new asked told → StandFirst made g new
unfolding built_stands_first
stands_cut made large g bound kept new asked told first (inl (inl (same, unasked))) = subst (StandFirst made g) (sym same) first
stands_cut made large g bound kept new asked told first (inl (inr some)) =
    let present : some.news.texts ≡ first.present = texts_same made large g first.present some.news.texts first.has some.news.has in
    let none : some.fresh ≡ [] = some.news.fresh_are ∙ ap (new_texts kept) present ∙ first.none in
    let no_more : some.more ≡ [] = nothing_in some.more (some.further ++ some.rest) (sym some.front ∙ none) in
    subst (StandFirst made g) (sym (some.kept ∙ ap (λ (more : List GroupTextData). kept ++ more) no_more ∙ append-nil kept)) first
stands_cut made large g bound kept new asked told first (inr (count, builds)) =
    let built = built_stands_first large g bound kept new asked told count builds in
    let present : builds.present ≡ first.present = texts_same made large g first.present builds.present first.has builds.has in
    record {
      present = first.present;
      has = first.has;
      none = ap (new_texts new) (sym present) ∙ built.none;
      first = ap (λ (texts : List GroupTextData). used_texts texts new) (sym present) ∙ built.first;
    }

-- without a last build what is kept stands as the table has it
pub builds_alone : (large : ℕ) (g : GraphData) (bound : Option ℕ) (old new before after : List GroupTextData) (result : Result ℕ BuildFault) →
    IfOk result (Builds large g bound old new before after) → IfOk result (Builds large g bound (used_texts [] old) (used_texts [] new) before after)
builds_alone large g bound old new before after (Ok count) builds =
    subst (λ (texts : List GroupTextData). Builds large g bound texts (used_texts [] new) before after count) (kept_alone old)
    (subst (λ (texts : List GroupTextData). Builds large g bound old texts before after count) (kept_alone new) builds)
builds_alone large g bound old new before after (Err fault) builds = tt

pub cut_alone : (large : ℕ) (g : GraphData) (bound : Option ℕ) (old new before after : List GroupTextData) →
    IsCutInColumns large g bound old new before after → IsCutInColumns large g bound (used_texts [] old) (used_texts [] new) before after
cut_alone large g bound old new before after cut =
    subst (λ (texts : List GroupTextData). IsCutInColumns large g bound texts (used_texts [] new) before after) (kept_alone old)
    (subst (λ (texts : List GroupTextData). IsCutInColumns large g bound old texts before after) (kept_alone new) cut)
