-- The texts of a machine's last build, which stand in front of what is kept: after a build, where one was refused, and where the machine is
-- let go.
use Rattle.std.proofs.Common.{◌≡◌, ℕ, Bool, true, false, ◌||◌, List, [], ◌++◌, Option, sym, ap, subst, ◌∙◌}
use Rattle.switch_paths.specs.Graphs.{GraphData}
use Rattle.group_text.specs.Texts.{GroupTextData, text_of_group}
use Rattle.group_text.specs.FirstTexts.{is_among}
use Rattle.group_analysis.specs.Using.{used_texts}
use Rattle.analysis_cache.proofs.UseLemmas.{is_among-used, each_present}
use Rattle.analysis_cache.proofs.OrderLemmas.{used_texts-kept_after, is_among-used_kept}
use Rattle.circuit_texts.specs.Building.{HasTexts, Builds, IsCutOff}
use Rattle.machine_laws.specs.Machines.{MachineData}
use Rattle.machine_laws.specs.Fitting.{IsKeptBy}
use Rattle.machine_laws.specs.Beginnings.{HasLast}
use Rattle.machine_laws.proofs.KeptLemmas.{among_more}
use Rattle.column_stage.specs.Columns.{AreAmong}
use Rattle.column_stage.proofs.FrontLemmas.{kept_alone}

-- a machine that is let go leaves what is kept as it counted with the machine
pub leaves_last : (last now old new : List GroupTextData) → now ≡ last → new ≡ used_texts now old → used_texts [] new ≡ used_texts last old
leaves_last last now old new same left = sym (kept_alone new) ∙ left ∙ ap (λ (texts : List GroupTextData). used_texts texts old) same

-- texts that are among some are among more
pub still_among : (texts kept more new : List GroupTextData) → new ≡ kept ++ more → AreAmong texts kept → AreAmong texts new
still_among texts kept more new grown among =
    subst (AreAmong texts) (sym grown) (λ k d inside. among_more kept more _ (among k d inside))

-- the texts of the last build are the present ones, if nothing was edited since
pub last_present : (large : ℕ) (g : GraphData) (last present : List GroupTextData) → HasLast g last → HasTexts large g present → last ≡ present
last_present large g last present is has = is has.groups has.are ∙ sym has.texts_are

module _ (large : ℕ) (g : GraphData) (bound : Option ℕ) (old new before after : List GroupTextData) (count : ℕ) (machine : MachineData)
    (last : HasLast g machine.last) (builds : Builds large g bound old new before after count) where
  same : machine.last ≡ builds.present
  same = last_present large g machine.last builds.present last builds.has

  -- they are kept after the build
  pub last_kept : AreAmong machine.last new
  last_kept =
      subst (λ (texts : List GroupTextData). AreAmong texts new) (sym same)
      (subst (AreAmong builds.present) (sym builds.kept) (each_present bound builds.present old))

  -- and stand in front already
  pub front_already : used_texts machine.last new ≡ new
  front_already =
      ap (λ (texts : List GroupTextData). used_texts texts new) same
      ∙ ap (used_texts builds.present) builds.kept
      ∙ used_texts-kept_after bound builds.present old
      ∙ sym builds.kept

  -- so a build without a machine leaves what it promises
  pub builds_anew : Builds large g bound (used_texts [] old) (used_texts machine.last new) before after count
  builds_anew =
      subst (λ (texts : List GroupTextData). Builds large g bound texts (used_texts machine.last new) before after count) (kept_alone old)
      (subst (λ (texts : List GroupTextData). Builds large g bound old texts before after count) (sym front_already) builds)

-- a build without a machine that was cut off
pub cut_off_alone : (large : ℕ) (g : GraphData) (old new before after : List GroupTextData) → IsCutOff large g old new before after →
    IsCutOff large g (used_texts [] old) (used_texts [] new) before after
cut_off_alone large g old new before after cut_off =
    subst (λ (texts : List GroupTextData). IsCutOff large g texts (used_texts [] new) before after) (kept_alone old)
    (subst (λ (texts : List GroupTextData). IsCutOff large g old texts before after) (kept_alone new) cut_off)

-- a machine's texts are among those of the table if they are with the last ones in front
pub table_keeps : (g : GraphData) (last shown kept : List GroupTextData) (machine : MachineData) → shown ≡ used_texts last kept → AreAmong last kept →
    IsKeptBy g shown machine → IsKeptBy g kept machine
table_keeps g last shown kept machine is among known k part stands coded group is_part =
    let text = text_of_group g group in
    sym (is_among-used_kept last kept among text)
    ∙ sym (ap (λ (texts : List GroupTextData). is_among texts text) is)
    ∙ known k part stands coded group is_part

-- and they are with more texts
pub more_keep : (g : GraphData) (last shown kept more new : List GroupTextData) (machine : MachineData) → shown ≡ used_texts last kept →
    new ≡ kept ++ more → IsKeptBy g shown machine → IsKeptBy g (used_texts last new) machine
more_keep g last shown kept more new machine is grown known k part stands coded group is_part =
    let text = text_of_group g group in
    let was : (is_among last text || is_among kept text) ≡ true =
    sym (is_among-used last kept text)
    ∙ sym (ap (λ (texts : List GroupTextData). is_among texts text) is)
    ∙ known k part stands coded group is_part in
    is_among-used last new text
    ∙ either (is_among last text) (is_among kept text) (is_among new text)
    (λ some. ap (λ (texts : List GroupTextData). is_among texts text) grown ∙ among_more kept more text some) was
  where
    either : (a b c : Bool) → (b ≡ true → c ≡ true) → (a || b) ≡ true → (a || c) ≡ true
    either true b c more is = is
    either false b c more is = more is
