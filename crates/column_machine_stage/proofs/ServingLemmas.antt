-- What a stage of columns serves. Columns that step together serve as a machine of one column does: they cover the graph, and the texts of their
-- parts are kept. For columns that take turns the texts of the graph stand in front of what is kept after a build, so a further one finds none new
-- and moves none; they stand there still where a build was cut off.
use Rattle.std.proofs.Common.{◌≡◌, ℕ, ◌⊎◌, ◌<◌, Bool, inl, inr, true, false, ◌||◌, List, [], ◌++◌, Option, None, Some, is_some, refl, sym, ap, ap₂, subst, ◌∙◌, true≢false}
use Rattle.std.specs.Prelude.{Result, Ok, Err, IfSome, IfNone, IfOk, IfErr, OnOk, OnErr}
use Rattle.std.proofs.lemmas.List.{map-append}
use Rattle.switch_paths.specs.Graphs.{GraphData}
use Rattle.group_text.specs.Texts.{GroupTextData, text_of_group}
use Rattle.group_text.specs.FirstTexts.{is_among}
use Rattle.group_analysis.specs.Using.{used_texts}
use Rattle.straight_code.specs.Code.{CodeData}
use Rattle.analysis_cache.specs.Keeping.{KeptData, IsGrown, entry_texts, texts_of}
use Rattle.analysis_cache.proofs.SettleLemmas.{used_texts-again}
use Rattle.analysis_cache.proofs.UseLemmas.{is_among-used, each_present}
use Rattle.analysis_cache.proofs.OrderLemmas.{is_among-used_kept}
use Rattle.circuit_texts.specs.declared.texts.BuildFault.{BuildFault}
use Rattle.circuit_texts.specs.declared.texts.BuildFault.TheVariants as build
use Rattle.circuit_texts.specs.Sizes.{TellsRefused}
use Rattle.circuit_texts.specs.Building.{Builds, IsCutOff}
use Rattle.machine_laws.specs.Machines.{MachineData}
use Rattle.machine_laws.specs.Fitting.{IsKeptBy}
use Rattle.machine_laws.proofs.KeptLemmas.{among_more, built_texts_are_kept, fitting_machines_share_texts}
use Rattle.column_machines.specs.Columns.{column_states}
use Rattle.column_machines.specs.Running.{AreColumns}
use Rattle.column_machines.specs.declared.column_machine.ColumnMachine.{ColumnMachine}
use Rattle.column_machines.specs.declared.column_machine.ColumnMachine.TheVariants.{Together, InTurn}
use Rattle.column_machines.specs.Moving.{columns_of, highs_of, lows_of, last_in, CoversInColumns, FitsInColumns, IsInTurn, IsKeptByColumns, IsOfKind, IsTogether, KeepsColumnsButRoom}
use Rattle.column_machines.proofs.EditLemmas.{CoversInWords-roomed}
use Rattle.column_machines.proofs.FittingLemmas.{CoversInWords-fits, last_fits}
use Rattle.column_stage.specs.Columns.{AreAmong}
use Rattle.column_stage.specs.Standing.{IsCutInColumns, StandFirst}
use Rattle.column_stage.proofs.FrontLemmas.{kept_alone, none_missing, same_among}
use Rattle.column_stage.proofs.StandingLemmas.{built_stands_first, first_builds, stands_cut}
use Rattle.column_machine_stage.specs.declared.stage.Held.{Held}
use Rattle.column_machine_stage.specs.Stages.{StageData, hi_held, lo_held, machine_held, spare_held, SameStates, Serves, ServesIn, FitsIn, KeepsFit, IsInTurnIn, IsTogetherIn, IsOfKindIn, KeepsRoomIn, ReservesFrom, last_held}
use Rattle.column_machine_stage.specs.Acts.{BuildsColumns}

-- ---- what is kept

-- a machine's texts are among those of the table if they are with the last ones in front
table_keeps : (g : GraphData) (kept : List GroupTextData) (m : MachineData) → AreAmong m.last kept → IsKeptBy g (used_texts m.last kept) m → IsKeptBy g kept m
table_keeps g kept m among known k part stands coded group is_part =
    sym (is_among-used_kept m.last kept among (text_of_group g group)) ∙ known k part stands coded group is_part

-- and they are with more texts
more_keep : (g : GraphData) (kept more new : List GroupTextData) (m : MachineData) → new ≡ kept ++ more → IsKeptBy g (used_texts m.last kept) m →
    IsKeptBy g (used_texts m.last new) m
more_keep g kept more new m grown known k part stands coded group is_part =
    let text = text_of_group g group in
    let was : (is_among m.last text || is_among kept text) ≡ true = sym (is_among-used m.last kept text) ∙ known k part stands coded group is_part in
    is_among-used m.last new text
    ∙ either (is_among m.last text) (is_among kept text) (is_among new text)
    (λ some. ap (λ (texts : List GroupTextData). is_among texts text) grown ∙ among_more kept more text some) was
  where
    either : (a b c : Bool) → (b ≡ true → c ≡ true) → (a || b) ≡ true → (a || c) ≡ true
    either true b c more is = is
    either false b c more is = more is

-- more entries that are kept are more texts
texts_grown : (old new : KeptData) → IsGrown old new → (more : List GroupTextData) × (texts_of new ≡ texts_of old ++ more)
texts_grown old new grown =
    (entry_texts grown.more, ap (λ entries. entry_texts entries) grown.grown ∙ map-append (λ (entry : GroupTextData × CodeData). entry.0) old.entries grown.more)

-- texts that are among some are among more
still_among : (texts kept more new : List GroupTextData) → new ≡ kept ++ more → AreAmong texts kept → AreAmong texts new
still_among texts kept more new grown among = subst (AreAmong texts) (sym grown) (λ k d inside. among_more kept more _ (among k d inside))

-- with the table alone
pub known_table : (g : GraphData) (kept : List GroupTextData) (machine : ColumnMachine) → AreAmong (last_in machine) kept →
    IsKeptByColumns g (used_texts (last_in machine) kept) machine → IsKeptByColumns g kept machine
known_table g kept (Together m) among known = table_keeps g kept m.machine among known
known_table g kept (InTurn m) among known = tt

-- ---- a machine that is made

-- one that fits after a build serves
pub serves_built : (large : ℕ) (g : GraphData) (bound : Option ℕ) (old new asked told : List GroupTextData) (count : ℕ) (machine : ColumnMachine) →
    FitsInColumns g machine → Builds large g bound old new asked told count → Serves large g new machine
serves_built large g bound old new asked told count (Together m) fits builds = record {
  covers = CoversInWords-fits g m fits;
  known = built_texts_are_kept large g bound old new asked told count m.machine fits.plain builds;
  first = tt;
}
serves_built large g bound old new asked told count (InTurn m) fits builds = record {
  covers = fits;
  known = tt;
  first = built_stands_first large g bound old new asked told count builds;
}

-- its last texts stand in front already
pub front_built : (large : ℕ) (g : GraphData) (bound : Option ℕ) (old new asked told : List GroupTextData) (count : ℕ) (machine : ColumnMachine) →
    FitsInColumns g machine → Builds large g bound old new asked told count → used_texts (last_in machine) new ≡ new
front_built large g bound old new asked told count (Together m) fits builds =
    let same : m.machine.last ≡ builds.present = fits.last builds.has.groups builds.has.are ∙ sym builds.has.texts_are in
    ap (λ (texts : List GroupTextData). used_texts texts new) same
    ∙ ap (used_texts builds.present) builds.kept ∙ used_texts-again bound builds.present old ∙ sym builds.kept
front_built large g bound old new asked told count (InTurn m) fits builds = sym (kept_alone new)

-- and are kept
pub last_built : (large : ℕ) (g : GraphData) (bound : Option ℕ) (old new asked told : List GroupTextData) (count : ℕ) (machine : ColumnMachine) →
    FitsInColumns g machine → Builds large g bound old new asked told count → AreAmong (last_in machine) new
last_built large g bound old new asked told count (Together m) fits builds =
    let same : m.machine.last ≡ builds.present = fits.last builds.has.groups builds.has.are ∙ sym builds.has.texts_are in
    same_among builds.present m.machine.last new same
    (subst (AreAmong builds.present) (sym builds.kept) (each_present bound builds.present old))
last_built large g bound old new asked told count (InTurn m) fits builds = none_missing new

module _ (large : ℕ) (g : GraphData) (old new : StageData) (machine : ColumnMachine) (there : new.machine ≡ Some machine) (large_is : new.large ≡ large)
    (fits : FitsInColumns g machine) where
  pub made_anew : highs_of machine ≡ old.hi → lows_of machine ≡ old.lo → new.columns ≡ old.columns → new.hi ≡ highs_of machine → new.lo ≡ lows_of machine →
      BuildsColumns large g old new
  made_anew highs lows columns hi lo = record {
    same = record { columns = columns; each = λ column inside. ap₂ (column_states column) (hi ∙ highs) (lo ∙ lows) };
    fits = record { machine = machine; there = there; fits = fits };
    turns = λ turns. large_is;
  }

  module _ (bound : Option ℕ) (kept later asked told : List GroupTextData) (count : ℕ) (builds : Builds large g bound kept later asked told count) where
    pub serves_anew : ServesIn new g later
    serves_anew =
        subst (λ (found : Option ColumnMachine). IfSome found (Serves new.large g later)) (sym there)
        (subst (λ (n : ℕ). Serves n g later machine) (sym large_is) (serves_built large g bound kept later asked told count machine fits builds))

    pub front_anew : used_texts (last_held new.machine) later ≡ later
    front_anew =
        ap (λ (found : Option ColumnMachine). used_texts (last_held found) later) there ∙ front_built large g bound kept later asked told count machine fits builds

    pub last_anew : AreAmong (last_held new.machine) later
    last_anew =
        subst (λ (found : Option ColumnMachine). AreAmong (last_held found) later) (sym there)
        (last_built large g bound kept later asked told count machine fits builds)

-- it has the states of the columns that were handed in
pub has_states_of : (stage : StageData) (columns : ℕ) (hi lo : List ℕ) (result : Result (ColumnMachine × ℕ) BuildFault) → columns ≡ stage.columns →
    hi ≡ stage.hi → lo ≡ stage.lo → IfOk result (λ made. (columns_of made.0 ≡ columns) × (highs_of made.0 ≡ hi) × (lows_of made.0 ≡ lo)) →
    IfOk result (λ made. (columns_of made.0 ≡ stage.columns) × (highs_of made.0 ≡ stage.hi) × (lows_of made.0 ≡ stage.lo))
has_states_of stage columns hi lo (Ok made) count high low (columns_are, highs, lows) = (columns_are ∙ count, highs ∙ high, lows ∙ low)
has_states_of stage columns hi lo (Err fault) count high low fresh = tt

-- ---- a machine for columns that take turns

-- none, or one for columns that take turns, has no last texts
pub last_turns : (found : Option ColumnMachine) → IsInTurnIn found → last_held found ≡ []
last_turns None turns = refl
last_turns (Some (Together m)) turns = absurd turns
last_turns (Some (InTurn m)) turns = refl

pub last_turn : (machine : ColumnMachine) → IsInTurn machine → last_in machine ≡ []
last_turn (Together m) turns = absurd turns
last_turn (InTurn m) turns = refl

-- one that is there and serves fits
fits_there : (g : GraphData) (large : ℕ) (kept : List GroupTextData) (found : Option ColumnMachine) → is_some found ≡ true → IsInTurnIn found →
    IfSome found (Serves large g kept) → FitsIn g found
fits_there g large kept None there turns serves = absurd (true≢false (sym there))
fits_there g large kept (Some (Together m)) there turns serves = absurd turns
fits_there g large kept (Some (InTurn m)) there turns serves = record { machine = InTurn m; there = refl; fits = serves.covers }

-- and the texts stand in front
stands_there : (g : GraphData) (large : ℕ) (kept : List GroupTextData) (found : Option ColumnMachine) → is_some found ≡ true → IsInTurnIn found →
    IfSome found (Serves large g kept) → StandFirst large g kept
stands_there g large kept None there turns serves = absurd (true≢false (sym there))
stands_there g large kept (Some (Together m)) there turns serves = absurd turns
stands_there g large kept (Some (InTurn m)) there turns serves = serves.first

-- a machine that is there, made as it should be, is what a build wants
module _ (large : ℕ) (g : GraphData) (stage : StageData) (kept : List GroupTextData) (there : is_some stage.machine ≡ true) (turns : IsInTurnIn stage.machine)
    (same : stage.large ≡ large) (serves : ServesIn stage g kept) where
  pub made_there : BuildsColumns large g stage stage
  made_there = record {
    same = record { columns = refl; each = λ column inside. refl };
    fits = fits_there g stage.large kept stage.machine there turns serves;
    turns = λ turned. same;
  }

  pub builds_there : (bound : Option ℕ) (asked : List GroupTextData) → bound ≡ None → Builds large g bound kept kept asked asked 0
  builds_there bound asked unbounded =
      subst (λ (b : Option ℕ). Builds large g b kept kept asked asked 0) (sym unbounded)
      (first_builds large g kept asked
      (subst (λ (n : ℕ). StandFirst n g kept) same (stands_there g stage.large kept stage.machine there turns serves)))

  pub front_there : used_texts (last_held stage.machine) kept ≡ kept
  front_there = ap (λ (texts : List GroupTextData). used_texts texts kept) (last_turns stage.machine turns) ∙ sym (kept_alone kept)

  pub last_there : AreAmong (last_held stage.machine) kept
  last_there = same_among [] (last_held stage.machine) kept (last_turns stage.machine turns) (none_missing kept)

-- where none could be made, the one that was there serves still
pub serves_cut : (large : ℕ) (g : GraphData) (stage : StageData) (kept later : KeptData) (asked told : List GroupTextData) (fault : BuildFault) →
    IsInTurnIn stage.machine → ServesIn stage g (texts_of kept) →
    (fault ≡ build.NoMemory) ⊎ (TellsRefused large g fault × (later ≡ kept) × (told ≡ asked)) →
    (fault ≡ build.NoMemory → IsCutInColumns large g kept.bound (texts_of kept) (texts_of later) asked told) → ServesIn stage g (texts_of later)
serves_cut large g stage kept later asked told fault turns serves (inl is) cut = by stage.machine turns serves
  where
    by : (found : Option ColumnMachine) → IsInTurnIn found → IfSome found (Serves stage.large g (texts_of kept)) →
        IfSome found (Serves stage.large g (texts_of later))
    by None turned was = tt
    by (Some (Together m)) turned was = absurd turned
    by (Some (InTurn m)) turned was = record {
      covers = was.covers;
      known = tt;
      first = stands_cut stage.large large g kept.bound (texts_of kept) (texts_of later) asked told was.first (cut is);
    }
serves_cut large g stage kept later asked told fault turns serves (inr (first, same, unasked)) cut =
    subst (λ (k : KeptData). ServesIn stage g (texts_of k)) (sym same) serves

-- ---- a finish

-- what the machine serves, where there is one
pub covers_served : (large : ℕ) (g : GraphData) (kept : List GroupTextData) (found : Option ColumnMachine) → IfSome found (Serves large g kept) →
    IfSome found (CoversInColumns g)
covers_served large g kept None serves = tt
covers_served large g kept (Some machine) serves = serves.covers

pub known_served : (large : ℕ) (g : GraphData) (table : List GroupTextData) (found : Option ColumnMachine) → AreAmong (last_held found) table →
    IfSome found (Serves large g (used_texts (last_held found) table)) → IfSome found (IsKeptByColumns g table)
known_served large g table None among serves = tt
known_served large g table (Some machine) among serves = known_table g table machine among serves.known

-- for columns that step together the bound says nothing
served_any : (large other : ℕ) (g : GraphData) (kept : List GroupTextData) (machine : ColumnMachine) → IsTogether machine → Serves large g kept machine →
    Serves other g kept machine
served_any large other g kept (Together m) joint serves = record { covers = serves.covers; known = serves.known; first = tt }
served_any large other g kept (InTurn m) joint serves = absurd joint

-- where a finish lacks memory the machine is as before
pub cut_finished : (large : ℕ) (g : GraphData) (bound : Option ℕ) (old new : StageData) (kept later before after : List GroupTextData) (result : Result ℕ BuildFault) →
    result ≡ Err build.NoMemory → OnErr result (new ≡ old) →
    IsCutOff large g (used_texts (last_held old.machine) kept) (used_texts (last_held old.machine) later) before after →
    IsCutInColumns large g bound (used_texts (last_held old.machine) kept) (used_texts (last_held new.machine) later) before after
cut_finished large g bound old new kept later before after (Ok count) is same cut = absurd (cc is)
cut_finished large g bound old new kept later before after (Err fault) is same cut =
    inl (subst (λ (stage : StageData). IsCutOff large g (used_texts (last_held old.machine) kept) (used_texts (last_held stage.machine) later) before after) (sym same) cut)

pub refused_finished : (P : BuildFault → Type 0) (result : Result ℕ BuildFault) → IfErr result (λ fault. fault ≡ build.NoMemory) →
    IfErr result (λ fault. (fault ≡ build.NoMemory) ⊎ P fault)
refused_finished P (Ok count) lack = tt
refused_finished P (Err fault) lack = inl lack

-- a machine that was finished serves, or the one that was there does
pub serves_finished : (large : ℕ) (g : GraphData) (bound : Option ℕ) (old new : StageData) (kept later : KeptData) (asked told : List GroupTextData)
    (result : Result ℕ BuildFault) → IsTogetherIn old.machine → ServesIn old g (used_texts (last_held old.machine) (texts_of kept)) →
    OnOk result (BuildsColumns large g old new) → IsTogetherIn new.machine → OnErr result (new ≡ old) → OnErr result (IsGrown kept later) →
    IfOk result (Builds large g bound (used_texts (last_held old.machine) (texts_of kept)) (used_texts (last_held new.machine) (texts_of later)) asked told) →
    ServesIn new g (used_texts (last_held new.machine) (texts_of later))
serves_finished large g bound old new kept later asked told (Ok count) together serves made joint same grown builds =
    let fits = made.fits in
    subst (λ (found : Option ColumnMachine). IfSome found (Serves new.large g (used_texts (last_held new.machine) (texts_of later)))) (sym fits.there)
    (served_any large new.large g _ fits.machine (subst IsTogetherIn fits.there joint) (serves_built large g bound _ _ asked told count fits.machine fits.fits builds))
serves_finished large g bound old new kept later asked told (Err fault) together serves made joint same grown builds =
    let (more, texts) = texts_grown kept later grown in
    subst (λ (stage : StageData). ServesIn stage g (used_texts (last_held stage.machine) (texts_of later))) (sym same)
    (by old.machine together more texts serves)
  where
    by : (found : Option ColumnMachine) → IsTogetherIn found → (more : List GroupTextData) → texts_of later ≡ texts_of kept ++ more →
        IfSome found (Serves old.large g (used_texts (last_held found) (texts_of kept))) →
        IfSome found (Serves old.large g (used_texts (last_held found) (texts_of later)))
    by None joint more texts was = tt
    by (Some (Together m)) joint more texts was = record {
      covers = was.covers;
      known = more_keep g (texts_of kept) more (texts_of later) m.machine texts was.known;
      first = tt;
    }
    by (Some (InTurn m)) joint more texts was = absurd joint

-- its last texts are kept
pub last_finished : (old new : StageData) (kept later : KeptData) (result : Result ℕ BuildFault) → AreAmong (last_held old.machine) (texts_of kept) →
    OnOk result (AreAmong (last_held new.machine) (texts_of later)) → OnErr result (new ≡ old) → OnErr result (IsGrown kept later) →
    AreAmong (last_held new.machine) (texts_of later)
last_finished old new kept later (Ok count) among last same grown = last
last_finished old new kept later (Err fault) among last same grown =
    let (more, texts) = texts_grown kept later grown in
    subst (λ (stage : StageData). AreAmong (last_held stage.machine) (texts_of later)) (sym same)
    (still_among (last_held old.machine) (texts_of kept) more (texts_of later) texts among)

-- a machine that fits is there
pub fits_of : (g : GraphData) (machine : ColumnMachine) (result : Result ℕ BuildFault) → OnOk result (FitsInColumns g machine) → OnOk result (FitsIn g (Some machine))
fits_of g machine (Ok count) fits = record { machine = machine; there = refl; fits = fits }
fits_of g machine (Err fault) fits = tt

-- a stage that holds this
abbrev stage_of : ℕ → ℕ → Held → StageData
stage_of columns large held =
    record { columns = columns; hi = hi_held held; lo = lo_held held; machine = machine_held held; large = large; spare = spare_held held }

-- as many columns as there were
pub columns_finished : (columns : ℕ) (old new : Option ColumnMachine) → IsTogetherIn old → IfSome new (λ machine. IfSome old (λ was. columns_of machine ≡ columns_of was)) →
    IfSome old (λ machine. columns_of machine ≡ columns) → IfSome new (λ machine. columns_of machine ≡ columns)
columns_finished columns None new joint same count = absurd joint
columns_finished columns (Some was) None joint same count = tt
columns_finished columns (Some was) (Some machine) joint same count = same ∙ count

-- where there is a machine nothing stands alone
pub none_alone : (P : Type 0) (found : Option ColumnMachine) → IsTogetherIn found → IfNone found P
none_alone P None joint = absurd joint
none_alone P (Some machine) joint = tt

-- sound columns are those of the machine
pub sound_held : (columns : ℕ) (found : Option ColumnMachine) (P : ℕ → Type 0) → IfSome found (λ machine. columns_of machine ≡ columns) →
    ((column : ℕ) → column < columns → P column) → IfSome found (λ machine. (column : ℕ) → column < columns_of machine → P column)
sound_held columns None P same sound = tt
sound_held columns (Some machine) P same sound = λ column inside. sound column (subst (λ (n : ℕ). column < n) same inside)

-- with any bound a build is cut off as with each
pub builds_at : (large : ℕ) (g : GraphData) (bound : Option ℕ) (old new before after : List GroupTextData) (result : Result ℕ BuildFault) →
    IfOk result (λ count. (made : ℕ) → Builds made g bound old new before after count) → IfOk result (Builds large g bound old new before after)
builds_at large g bound old new before after (Ok count) builds = builds large
builds_at large g bound old new before after (Err fault) builds = tt

-- where what is held stays the stage does
pub same_on_err : (columns large : ℕ) (old new : Held) (result : Result ℕ BuildFault) → OnErr result (new ≡ old) → OnErr result (stage_of columns large new ≡ stage_of columns large old)
same_on_err columns large old new (Ok count) same = tt
same_on_err columns large old new (Err fault) same = ap (stage_of columns large) same

-- ---- by what a build answers

module _ (large : ℕ) (g : GraphData) (old new : StageData) where
  pub fits_made : (result : Result ℕ BuildFault) → OnOk result (BuildsColumns large g old new) → OnOk result (FitsIn g new.machine)
  fits_made (Ok count) made = made.fits
  fits_made (Err fault) made = tt

  pub same_made : (result : Result ℕ BuildFault) → OnOk result (BuildsColumns large g old new) → OnErr result (new ≡ old) → SameStates old new
  same_made (Ok count) made same = made.same
  same_made (Err fault) made same =
      subst (λ (stage : StageData). SameStates old stage) (sym same) (record { columns = refl; each = λ column inside. refl })

  -- a machine for columns that step together was finished
  pub made_finished : (result : Result ℕ BuildFault) → SameStates old new → OnOk result (FitsIn g new.machine) → IsTogetherIn new.machine →
      OnOk result (BuildsColumns large g old new)
  made_finished (Err fault) same fits together = tt
  made_finished (Ok count) same fits together = record { same = same; fits = fits; turns = λ turns. absurd (both new.machine together turns) }
    where
      both : (found : Option ColumnMachine) → IsTogetherIn found → ¬ IsInTurnIn found
      both None joint turns = joint
      both (Some (Together m)) joint turns = turns
      both (Some (InTurn m)) joint turns = joint

-- what a machine made anew leaves stands as the table has it
module _ (large : ℕ) (g : GraphData) (bound : Option ℕ) (old new : StageData) (kept later before after : List GroupTextData) (turns : IsInTurnIn old.machine) where
  alone_before : used_texts (last_held old.machine) kept ≡ kept
  alone_before = ap (λ (texts : List GroupTextData). used_texts texts kept) (last_turns old.machine turns) ∙ sym (kept_alone kept)

  pub builds_alone : (result : Result ℕ BuildFault) → OnOk result (used_texts (last_held new.machine) later ≡ later) → IfOk result (Builds large g bound kept later before after) →
      IfOk result (Builds large g bound (used_texts (last_held old.machine) kept) (used_texts (last_held new.machine) later) before after)
  builds_alone (Ok count) front builds =
      subst (λ (texts : List GroupTextData). Builds large g bound texts (used_texts (last_held new.machine) later) before after count) (sym alone_before)
      (subst (λ (texts : List GroupTextData). Builds large g bound kept texts before after count) (sym front) builds)
  builds_alone (Err fault) front builds = tt

  -- after a build that was refused there is the machine from before
  after_all : (result : Result ℕ BuildFault) → OnOk result (used_texts (last_held new.machine) later ≡ later) → OnErr result (new ≡ old) →
      used_texts (last_held new.machine) later ≡ later
  after_all (Ok count) front same = front
  after_all (Err fault) front same =
      ap (λ (stage : StageData). used_texts (last_held stage.machine) later) same
      ∙ ap (λ (texts : List GroupTextData). used_texts texts later) (last_turns old.machine turns) ∙ sym (kept_alone later)

  pub serves_alone : (result : Result ℕ BuildFault) → OnOk result (used_texts (last_held new.machine) later ≡ later) → OnErr result (new ≡ old) → ServesIn new g later →
      ServesIn new g (used_texts (last_held new.machine) later)
  serves_alone result front same serves = subst (λ (texts : List GroupTextData). ServesIn new g texts) (sym (after_all result front same)) serves

  pub cut_alone : (result : Result ℕ BuildFault) → OnOk result (used_texts (last_held new.machine) later ≡ later) → OnErr result (new ≡ old) →
      IsCutInColumns large g bound kept later before after →
      IsCutInColumns large g bound (used_texts (last_held old.machine) kept) (used_texts (last_held new.machine) later) before after
  cut_alone result front same cut =
      subst (λ (texts : List GroupTextData). IsCutInColumns large g bound texts (used_texts (last_held new.machine) later) before after) (sym alone_before)
      (subst (λ (texts : List GroupTextData). IsCutInColumns large g bound kept texts before after) (sym (after_all result front same)) cut)

  pub last_alone : (result : Result ℕ BuildFault) → OnOk result (AreAmong (last_held new.machine) later) → OnErr result (new ≡ old) →
      AreAmong (last_held new.machine) later
  last_alone (Ok count) last same = last
  last_alone (Err fault) last same =
      subst (λ (stage : StageData). AreAmong (last_held stage.machine) later) (sym same)
      (same_among [] (last_held old.machine) later (last_turns old.machine turns) (none_missing later))

  pub serves_before : ServesIn old g (used_texts (last_held old.machine) kept) → ServesIn old g kept
  serves_before serves = subst (λ (texts : List GroupTextData). ServesIn old g texts) alone_before serves

-- ---- acts that take no memory

-- a machine that serves and fits still serves still
served_on : (large : ℕ) (g : GraphData) (kept : List GroupTextData) (old new : ColumnMachine) → (CoversInColumns g old → CoversInColumns g new) →
    (IsKeptByColumns g kept old → IsKeptByColumns g kept new) → IsOfKind old new → Serves large g kept old → Serves large g kept new
served_on large g kept (Together a) (Together b) covers known kind serves = record { covers = covers serves.covers; known = known serves.known; first = tt }
served_on large g kept (Together a) (InTurn b) covers known kind serves = absurd kind
served_on large g kept (InTurn a) (Together b) covers known kind serves = absurd kind
served_on large g kept (InTurn a) (InTurn b) covers known kind serves = record { covers = covers serves.covers; known = tt; first = serves.first }

serves_still : (large : ℕ) (g : GraphData) (kept : List GroupTextData) (old new : Option ColumnMachine) → KeepsFit g old new →
    IfSome old (Serves large g kept) → IfSome new (Serves large g kept)
serves_still large g kept None new none serves = subst (λ (found : Option ColumnMachine). IfSome found (Serves large g kept)) (sym none) tt
serves_still large g kept (Some machine) new (next, there, keeps) serves =
    subst (λ (found : Option ColumnMachine). IfSome found (Serves large g kept)) (sym there)
    (served_on large g kept machine next keeps.covers (keeps.known kept) keeps.kind serves)

-- so does a stage where a node is placed
pub serves_put : (g : GraphData) (kept : List GroupTextData) (old new : StageData) → KeepsFit g old.machine new.machine → new.large ≡ old.large →
    ServesIn old g kept → ServesIn new g kept
serves_put g kept old new keeps large serves =
    subst (λ (n : ℕ). IfSome new.machine (Serves n g kept)) (sym large) (serves_still old.large g kept old.machine new.machine keeps serves)

pub last_put : (g : GraphData) (old new : Option ColumnMachine) → KeepsFit g old new → last_held new ≡ last_held old
last_put g None new none = ap last_held none
last_put g (Some machine) new (next, there, keeps) = ap last_held there ∙ keeps.last

-- and one that moved
moved_known : (g : GraphData) (kept : List GroupTextData) (old new : ColumnMachine) → FitsInColumns g old → FitsInColumns g new → IsOfKind old new →
    IsKeptByColumns g kept old → IsKeptByColumns g kept new
moved_known g kept (Together a) (Together b) was now kind known = fitting_machines_share_texts g kept a.machine b.machine was.plain now.plain known
moved_known g kept (Together a) (InTurn b) was now kind known = absurd kind
moved_known g kept (InTurn a) (Together b) was now kind known = absurd kind
moved_known g kept (InTurn a) (InTurn b) was now kind known = tt

moved_last : (g : GraphData) (old new : ColumnMachine) → FitsInColumns g old → FitsInColumns g new → IsOfKind old new → last_in new ≡ last_in old
moved_last g (Together a) (Together b) was now kind = last_fits g a b was now
moved_last g (Together a) (InTurn b) was now kind = absurd kind
moved_last g (InTurn a) (Together b) was now kind = absurd kind
moved_last g (InTurn a) (InTurn b) was now kind = refl

covers_fits : (g : GraphData) (machine : ColumnMachine) → FitsInColumns g machine → CoversInColumns g machine
covers_fits g (Together m) fits = CoversInWords-fits g m fits
covers_fits g (InTurn m) fits = fits

-- the machines that were there and are there
module _ (g : GraphData) (old new : StageData) (was : FitsIn g old.machine) (now : FitsIn g new.machine) (kind : IsOfKindIn old.machine new.machine) where
  kind_is : IsOfKind was.machine now.machine
  kind_is =
      subst (λ (found : Option ColumnMachine). IfSome found (IsOfKind was.machine)) now.there
      (subst (λ (found : Option ColumnMachine). IsOfKindIn found new.machine) was.there kind)

  pub serves_moved : (kept : List GroupTextData) → new.large ≡ old.large → ServesIn old g kept → ServesIn new g kept
  serves_moved kept large serves =
      let before : Serves old.large g kept was.machine = subst (λ (found : Option ColumnMachine). IfSome found (Serves old.large g kept)) was.there serves in
      subst (λ (n : ℕ). IfSome new.machine (Serves n g kept)) (sym large)
      (subst (λ (found : Option ColumnMachine). IfSome found (Serves old.large g kept)) (sym now.there)
      (served_on old.large g kept was.machine now.machine (λ covers. covers_fits g now.machine now.fits)
      (moved_known g kept was.machine now.machine was.fits now.fits kind_is) kind_is before))

  pub last_moved : last_held new.machine ≡ last_held old.machine
  last_moved =
      ap last_held now.there ∙ moved_last g was.machine now.machine was.fits now.fits kind_is ∙ sym (ap last_held was.there)

-- a machine that fits stays one
pub fits_still : (g : GraphData) (old new : Option ColumnMachine) → KeepsFit g old new → FitsIn g old → FitsIn g new
fits_still g None new none fits = let no : None ≡ Some fits.machine = fits.there in absurd (cc)
fits_still g (Some machine) new (next, there, keeps) fits =
    let same : machine ≡ fits.machine = let e : Some machine ≡ Some fits.machine = fits.there in cc in
    record { machine = next; there = there; fits = keeps.fits (subst (FitsInColumns g) (sym same) fits.fits) }

-- ---- room

-- with other room a machine has its columns, and serves as before
pub columns_roomed : (old new : ColumnMachine) → KeepsColumnsButRoom old new → columns_of new ≡ columns_of old
columns_roomed (Together m) new (next, is, keeps) = ap columns_of is ∙ keeps.columns
columns_roomed (InTurn m) new is = ap columns_of is

pub highs_roomed : (old new : ColumnMachine) → KeepsColumnsButRoom old new → highs_of new ≡ highs_of old
highs_roomed (Together m) new (next, is, keeps) = ap highs_of is ∙ keeps.highs
highs_roomed (InTurn m) new is = ap highs_of is

pub lows_roomed : (old new : ColumnMachine) → KeepsColumnsButRoom old new → lows_of new ≡ lows_of old
lows_roomed (Together m) new (next, is, keeps) = ap lows_of is ∙ keeps.lows
lows_roomed (InTurn m) new is = ap lows_of is

last_roomed : (old new : ColumnMachine) → KeepsColumnsButRoom old new → last_in new ≡ last_in old
last_roomed (Together m) new (next, is, keeps) = ap last_in is ∙ ap (λ (one : MachineData). one.last) keeps.machine
last_roomed (InTurn m) new is = ap last_in is

served_roomed : (large : ℕ) (g : GraphData) (kept : List GroupTextData) (old new : ColumnMachine) → KeepsColumnsButRoom old new → Serves large g kept old →
    Serves large g kept new
served_roomed large g kept (Together m) new (next, is, keeps) serves =
    subst (λ (one : ColumnMachine). Serves large g kept one) (sym is) (record {
      covers = CoversInWords-roomed g m next keeps serves.covers;
      known = subst (IsKeptBy g kept) (sym keeps.machine) serves.known;
      first = tt;
    })
served_roomed large g kept (InTurn m) new is serves = subst (λ (one : ColumnMachine). Serves large g kept one) (sym is) serves

-- the machine that is there has the room of the one from before, or more
pub reserves_from : (old mid new : Option ColumnMachine) → IfSome mid (λ machine. old ≡ Some machine) → KeepsRoomIn mid new → IfSome new (ReservesFrom old)
reserves_from old None new from none = subst (λ (found : Option ColumnMachine). IfSome found (ReservesFrom old)) (sym none) tt
reserves_from old (Some machine) new from (next, there, keeps) =
    subst (λ (found : Option ColumnMachine). IfSome found (ReservesFrom old)) (sym there) (machine, from, keeps)

pub last_reserved : (mid new : Option ColumnMachine) → KeepsRoomIn mid new → last_held new ≡ last_held mid
last_reserved None new none = ap last_held none
last_reserved (Some machine) new (next, there, keeps) = ap last_held there ∙ last_roomed machine next keeps

pub words_reserved : (columns : ℕ) (mid new : Option ColumnMachine) → KeepsRoomIn mid new → IfSome mid (λ machine. columns_of machine ≡ columns) →
    IfSome new (λ machine. columns_of machine ≡ columns)
words_reserved columns None new none same =
    subst (λ (found : Option ColumnMachine). IfSome found (λ machine. columns_of machine ≡ columns)) (sym none) tt
words_reserved columns (Some machine) new (next, there, keeps) same =
    subst (λ (found : Option ColumnMachine). IfSome found (λ one. columns_of one ≡ columns)) (sym there) (columns_roomed machine next keeps ∙ same)

pub columns_reserved : (columns : ℕ) (mid new : Option ColumnMachine) (hi lo : List ℕ) → KeepsRoomIn mid new → IfNone mid (AreColumns columns hi lo) →
    IfNone new (AreColumns columns hi lo)
columns_reserved columns None new hi lo none columns_are = subst (λ (found : Option ColumnMachine). IfNone found (AreColumns columns hi lo)) (sym none) columns_are
columns_reserved columns (Some machine) new hi lo (next, there, keeps) columns_are =
    subst (λ (found : Option ColumnMachine). IfNone found (AreColumns columns hi lo)) (sym there) tt

-- what holds of a machine that is there holds of the one that stays
pub kept_of : (P : ColumnMachine → Type 0) (old new : Option ColumnMachine) → IfSome new (λ machine. old ≡ Some machine) → IfSome old P → IfSome new P
kept_of P old None from is = tt
kept_of P old (Some machine) from is = subst (λ (found : Option ColumnMachine). IfSome found P) from is

-- a machine that stays is the one that was there
pub same_found : (machine : ColumnMachine) (new : Option ColumnMachine) → IfSome new (λ one. one ≡ machine) → IfSome new (λ one. Some machine ≡ Some one)
same_found machine None same = tt
same_found machine (Some one) same = ap Some (sym same)

-- so the stage serves
pub serves_roomed : (g : GraphData) (kept : List GroupTextData) (old new : StageData) → IfSome new.machine (ReservesFrom old.machine) → new.large ≡ old.large →
    ServesIn old g kept → ServesIn new g kept
serves_roomed g kept old new from large serves =
    subst (λ (n : ℕ). IfSome new.machine (Serves n g kept)) (sym large) (by new.machine from)
  where
    by : (found : Option ColumnMachine) → IfSome found (ReservesFrom old.machine) → IfSome found (Serves old.large g kept)
    by None none = tt
    by (Some machine) (before, was, keeps) =
        served_roomed old.large g kept before machine keeps (subst (λ (one : Option ColumnMachine). IfSome one (Serves old.large g kept)) was serves)
