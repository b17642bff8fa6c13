-- What a build of a stage comes to: a machine is built or finished, a whole stage is, or it is refused.
use Rattle.std.proofs.Common.{◌≡◌, ℕ, inl, inr, List, [], Option, None, Ok, Err, refl, sym, ap, subst, ◌∙◌}
use Rattle.std.specs.Prelude.{◌⊎◌, Result, IfOk, OnErr, OnOk}
use Rattle.std.proofs.lemmas.List.{map-append}
use Rattle.ternary.specs.declared.tern.Tern.{Tern}
use Rattle.switch_paths.specs.Graphs.{GraphData}
use Rattle.group_text.specs.Texts.{GroupTextData}
use Rattle.group_analysis.specs.Using.{used_texts}
use Rattle.straight_code.specs.Code.{CodeData}
use Rattle.analysis_cache.specs.Keeping.{KeptData, IsGrown, entry_texts, texts_of}
use Rattle.circuit_texts.specs.declared.texts.BuildFault.{BuildFault}
use Rattle.circuit_texts.specs.declared.texts.BuildFault.TheVariants.{NoMemory}
use Rattle.circuit_texts.specs.Building.{Builds, IsCutOff}
use Rattle.column_stage.specs.Columns.{AreAmong}
use Rattle.column_stage.specs.Standing.{StandFirst}
use Rattle.column_stage.proofs.FrontLemmas.{kept_alone, none_missing}
use Rattle.column_stage.proofs.StandingLemmas.{built_stands_first, builds_alone, first_builds}
use Rattle.machine_laws.specs.Machines.{KeepsParts, MachineData}
use Rattle.machine_laws.specs.Editing.{Finishes}
use Rattle.machine_laws.specs.Beginnings.{HasLast}
use Rattle.machine_stage.specs.Machines as whole
use Rattle.machine_stage.specs.Machines.{StageData}
use Rattle.machine_stage.proofs.LastLemmas.{cut_off_alone, front_already, last_kept, still_among}
use Rattle.good_phases.specs.Phases.{GoodData}
use Rattle.fault_stage.specs.declared.built.Course.{Course}
use Rattle.fault_stage.specs.declared.held.Held.{Held}
use Rattle.fault_stage.specs.declared.held.Held.TheVariants as held
use Rattle.fault_stage.specs.Building.{BuildsAnew, BuildsStage, FinishesNext, PutsLast, StaysBuilt}
use Rattle.fault_stage.specs.Runs.{GoesIn}
use Rattle.fault_stage.specs.Stages.{FaultData, Plain, Ready, ReadyData, ServesIn, ServesReady, StandInFront, data_of, last_in, ready_of, state_of}
use Rattle.fault_stage.proofs.FrontLemmas.{stands_in_front}
use Rattle.fault_stage.proofs.KnownLemmas.{known_by_last, known_held}

module _ (large : ℕ) (g : GraphData) (bound : Option ℕ) (old : FaultData) (kept later before after : List GroupTextData) (none : last_in old ≡ []) where
  -- a machine is there, whose texts stand in front
  pub built_ready : (ready : ReadyData) (count : ℕ) → ready.graph ≡ g → ready.large ≡ large → ready.state ≡ state_of old →
      Builds large g bound kept later before after count → StandInFront ready.texts later →
      BuildsStage large g bound old (Ready ready) kept later before after (Ok count)
  built_ready ready count graph large_is state builds front = record {
    fits = sym graph;
    serves = subst (ServesReady ready g) (kept_alone later) (record {
      graph = sym graph;
      first = subst (λ n. StandFirst n g later) (sym large_is) (built_stands_first large g bound kept later before after count builds);
      front = front;
    });
    state = state;
    builds = subst (λ (texts : List GroupTextData). Builds large g bound (used_texts texts kept) (used_texts [] later) before after count) (sym none)
        (builds_alone large g bound kept later before after (Ok count) builds);
    last = none_missing later;
    cut_off = λ is. absurd (cc (is));
    err = tt;
  }

  -- a whole stage is there
  pub built_whole : (stage : StageData) (count : ℕ) (state : List Tern) → state ≡ state_of old →
      BuildsAnew large g bound state kept later before after stage count → BuildsStage large g bound old (Plain stage) kept later before after (Ok count)
  built_whole stage count state same anew = record {
    fits = anew.fits;
    serves = anew.serves;
    state = anew.state_is ∙ same;
    builds = subst (λ (texts : List GroupTextData). Builds large g bound texts (used_texts (last_in (Plain stage)) later) before after count)
        (kept_alone kept ∙ ap (λ (texts : List GroupTextData). used_texts texts kept) (sym none)) anew.builds;
    last = anew.last;
    cut_off = λ is. absurd (cc (is));
    err = tt;
  }

  -- nothing is there that wasn't
  pub not_built : (fault : BuildFault) → ServesIn old g later → IsCutOff large g kept later before after →
      BuildsStage large g bound old old kept later before after (Err fault)
  not_built fault serves cut = record {
    fits = tt;
    serves = subst (λ (texts : List GroupTextData). ServesIn old g (used_texts texts later)) (sym none) (subst (ServesIn old g) (kept_alone later) serves);
    state = refl;
    builds = tt;
    last = subst (λ (texts : List GroupTextData). AreAmong texts later) (sym none) (none_missing later);
    cut_off = λ is.
        subst (λ (texts : List GroupTextData). IsCutOff large g (used_texts texts kept) (used_texts texts later) before after) (sym none)
        (cut_off_alone large g kept later before after cut);
    err = refl;
  }

-- what is built already is built again
pub built_again : (large : ℕ) (g : GraphData) (bound : Option ℕ) (ready : ReadyData) (kept before : List GroupTextData) → bound ≡ None → ready.large ≡ large →
    ServesReady ready g kept → BuildsStage large g bound (Ready ready) (Ready ready) kept kept before before (Ok 0)
built_again large g bound ready kept before unbound large_is serves =
    subst (λ (b : Option ℕ). BuildsStage large g b (Ready ready) (Ready ready) kept kept before before (Ok 0)) (sym unbound)
    (built_ready large g None (Ready ready) kept kept before before refl ready 0 (sym serves.graph) large_is refl
    (first_builds large g kept before (subst (λ n. StandFirst n g kept) large_is serves.first)) serves.front)

-- so it is if a build would find nothing new
pub stays_again : (large : ℕ) (g : GraphData) (k : KeptData) (it : Held) (before : List GroupTextData) → StaysBuilt large k it →
    ServesIn (data_of it) g (used_texts (last_in (data_of it)) (texts_of k)) → BuildsStage large g k.bound (data_of it) (data_of it) (texts_of k) (texts_of k) before before (Ok 0)
stays_again large g k (held.Built built) before (alike, unbound) serves =
    built_again large g k.bound (ready_of built) (texts_of k) before unbound alike (subst (ServesReady (ready_of built) g) (sym (kept_alone (texts_of k))) serves)
stays_again large g k (held.Whole stage) before none serves = absurd none
stays_again large g k (held.Waiting waiting) before none serves = absurd none

-- a machine that was built has its texts in front
pub front_built : (large : ℕ) (g : GraphData) (bound : Option ℕ) (old new before after : List GroupTextData) (count : ℕ) (m : MachineData) → HasLast g m.last →
    Builds large g bound old new before after count → StandInFront m.last new
front_built large g bound old new before after count m last builds = record {
  among = last_kept large g bound old new before after count m last builds;
  front = front_already large g bound old new before after count m last builds;
}

-- what a machine that was finished leaves of what is kept, with the texts of its last build put in front
pub builds_finished : (large : ℕ) (g : GraphData) (bound : Option ℕ) (old_last new_last kept mid later before after : List GroupTextData) (count : ℕ) →
    StandInFront old_last kept → later ≡ used_texts new_last mid → Builds large g bound (used_texts old_last kept) (used_texts new_last mid) before after count →
    Builds large g bound kept later before after count
builds_finished large g bound old_last new_last kept mid later before after count front left builds =
    subst (λ (texts : List GroupTextData). Builds large g bound kept texts before after count) (sym left)
    (subst (λ (texts : List GroupTextData). Builds large g bound texts (used_texts new_last mid) before after count) front.front builds)

-- ---- a stage that holds on to nothing

-- it is built as ever
pub built_plain : (large : ℕ) (g : GraphData) (bound : Option ℕ) (old new : StageData) (kept later before after : List GroupTextData) (result : Result ℕ BuildFault) →
    OnOk result (whole.FitsIn g new.machine) → whole.ServesIn new g (used_texts (whole.last_in new.machine) later) → new.state ≡ old.state →
    IfOk result (Builds large g bound (used_texts (whole.last_in old.machine) kept) (used_texts (whole.last_in new.machine) later) before after) →
    AreAmong (whole.last_in new.machine) later →
    (result ≡ Err NoMemory → IsCutOff large g (used_texts (whole.last_in old.machine) kept) (used_texts (whole.last_in new.machine) later) before after) →
    OnErr result (new ≡ old) → BuildsStage large g bound (Plain old) (Plain new) kept later before after result
built_plain large g bound old new kept later before after (Ok count) fits serves state builds last cut_off err =
    record { fits = fits; serves = serves; state = state; builds = builds; last = last; cut_off = cut_off; err = tt }
built_plain large g bound old new kept later before after (Err fault) fits serves state builds last cut_off err =
    record { fits = tt; serves = serves; state = state; builds = tt; last = last; cut_off = cut_off; err = ap (λ (stage : StageData). Plain stage) err }

-- from a start
pub built_from_start : (large : ℕ) (g : GraphData) (bound : Option ℕ) (state : List Tern) (old new : StageData) (kept later before after : List GroupTextData) (count : ℕ) →
    whole.last_in old.machine ≡ [] → old.state ≡ state → whole.FitsIn g new.machine → whole.ServesIn new g (used_texts (whole.last_in new.machine) later) →
    new.state ≡ old.state → Builds large g bound (used_texts (whole.last_in old.machine) kept) (used_texts (whole.last_in new.machine) later) before after count →
    AreAmong (whole.last_in new.machine) later → BuildsAnew large g bound state kept later before after new count
built_from_start large g bound state old new kept later before after count none start fits serves same builds last = record {
  fits = fits;
  serves = serves;
  state_is = same ∙ start;
  builds = subst (λ (texts : List GroupTextData). Builds large g bound texts (used_texts (whole.last_in new.machine) later) before after count)
      (ap (λ (texts : List GroupTextData). used_texts texts kept) none ∙ sym (kept_alone kept)) builds;
  last = last;
}

-- or it was cut off there
pub cut_from_start : (large : ℕ) (g : GraphData) (last last_new kept later before after : List GroupTextData) → last ≡ [] → last_new ≡ last →
    IsCutOff large g (used_texts last kept) (used_texts last_new later) before after → IsCutOff large g kept later before after
cut_from_start large g last last_new kept later before after none same cut =
    subst (λ (texts : List GroupTextData). IsCutOff large g texts later before after)
    (ap (λ (texts : List GroupTextData). used_texts texts kept) none ∙ sym (kept_alone kept))
    (subst (λ (texts : List GroupTextData). IsCutOff large g (used_texts last kept) texts before after)
    (ap (λ (texts : List GroupTextData). used_texts texts later) (same ∙ none) ∙ sym (kept_alone later)) cut)

-- ---- a machine that was finished

-- its texts are those of its parts, and stand in front
pub finished_next : (large : ℕ) (g : GraphData) (bound : Option ℕ) (good : GoodData) (state : List Tern) (old mid new : MachineData)
    (kept between later before after : List GroupTextData) (course : Course) (count : ℕ) → GoesIn good g new state course → KeepsParts mid new →
    new.last ≡ mid.last → Finishes g old mid → StandInFront old.last kept → AreAmong mid.last between → later ≡ used_texts mid.last between →
    Builds large g bound (used_texts old.last kept) (used_texts mid.last between) before after count →
    FinishesNext large g bound good state new kept later before after course count
finished_next large g bound good state old mid new kept between later before after course count goes held last finishes front among left builds = record {
  goes = goes;
  known = known_held g mid new held last
      (known_by_last large g bound (used_texts old.last kept) (used_texts mid.last between) before after count mid finishes.fits finishes.last builds);
  front = subst (λ (texts : List GroupTextData). StandInFront texts later) (sym last)
      (subst (StandInFront mid.last) (sym left) (stands_in_front mid.last between among));
  builds = builds_finished large g bound old.last mid.last kept between later before after count front left builds;
}

-- where it wasn't, more is kept
pub grown_among : (last : List GroupTextData) (kept later : KeptData) → AreAmong last (texts_of kept) → IsGrown kept later → AreAmong last (texts_of later)
grown_among last kept later among grown =
    still_among last (texts_of kept) (entry_texts grown.more) (texts_of later)
    (ap (λ entries. entry_texts entries) grown.grown ∙ map-append (λ (entry : GroupTextData × CodeData). entry.0) kept.entries grown.more) among

-- and if memory lacked its texts were put in front of that
pub cut_put : (large : ℕ) (g : GraphData) (last : List GroupTextData) (kept between later : KeptData) (before after : List GroupTextData) (fault : BuildFault) →
    StandInFront last (texts_of kept) → PutsLast last fault between later → fault ≡ NoMemory →
    IsCutOff large g (used_texts last (texts_of kept)) (used_texts last (texts_of between)) before after →
    IsCutOff large g (texts_of kept) (texts_of later) before after
cut_put large g last kept between later before after fault front (inl (lacks, put)) none cut =
    subst (λ (texts : List GroupTextData). IsCutOff large g (texts_of kept) texts before after) (sym put)
    (subst (λ (texts : List GroupTextData). IsCutOff large g texts (used_texts last (texts_of between)) before after) front.front cut)
cut_put large g last kept between later before after fault front (inr (some, same)) none cut = absurd (some none)

-- a refusal left what is kept
pub refused_put : (Tells Asked : Type 0) (last : List GroupTextData) (kept between later : KeptData) (fault : BuildFault) → PutsLast last fault between later →
    (fault ≡ NoMemory) ⊎ (Tells × (between ≡ kept) × Asked) → (fault ≡ NoMemory) ⊎ (Tells × (later ≡ kept) × Asked)
refused_put Tells Asked last kept between later fault put (inl none) = inl none
refused_put Tells Asked last kept between later fault (inl (lacks, put)) (inr (told, same, asked)) = inl lacks
refused_put Tells Asked last kept between later fault (inr (some, still)) (inr (told, same, asked)) = inr (told, still ∙ same, asked)
