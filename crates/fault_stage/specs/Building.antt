-- What a build makes of a stage whose first run is recorded.
use Rattle.std.specs.Prelude.{◌≡◌, ◌≢◌, ◌⊎◌, ℕ, List, Option, None, Result, Err, IfErr, IfOk, OnOk, OnErr}
use Rattle.ternary.specs.declared.tern.Tern.{Tern}
use Rattle.switch_paths.specs.Graphs.{GraphData}
use Rattle.switch_paths.specs.Rails.{IsRailed}
use Rattle.group_text.specs.Texts.{GroupTextData}
use Rattle.group_analysis.specs.Using.{used_texts}
use Rattle.analysis_cache.specs.Keeping.{KeptData, texts_of}
use Rattle.circuit_texts.specs.declared.texts.BuildFault.{BuildFault}
use Rattle.circuit_texts.specs.declared.texts.BuildFault.TheVariants.{NoMemory}
use Rattle.circuit_texts.specs.Building.{Builds, IsCutOff}
use Rattle.circuit_texts.specs.Sizes.{TellsRefused}
use Rattle.column_stage.specs.Columns.{AreAmong, IsSoundState}
use Rattle.machine_laws.specs.Machines.{MachineData}
use Rattle.machine_laws.specs.Fitting.{IsKeptBy}
use Rattle.machine_stage.specs.Machines as whole
use Rattle.machine_stage.specs.Machines.{StageData}
use Rattle.good_phases.specs.Phases.{BeginsGood, GoodData}
use Rattle.fault_stage.specs.declared.built.Course.{Course}
use Rattle.fault_stage.specs.declared.held.Held.{Held}
use Rattle.fault_stage.specs.declared.held.Held.TheVariants as held
use Rattle.fault_stage.specs.Runs.{GoesIn, IsWell}
use Rattle.fault_stage.specs.Stages.{FaultData, FitsIn, ServesIn, StandInFront, data_of, last_in, state_of}

-- a build of a stage was done, refused or cut off: what it leaves of what is kept is what a build leaves, the state stays, and what is there then fits the
-- graph, or is as it was
pub record BuildsStage (large : ℕ) (g : GraphData) (bound : Option ℕ) (old new : FaultData) (kept later before after : List GroupTextData)
    (result : Result ℕ BuildFault) : Type 0 where
  pub fits : OnOk result (FitsIn new g)
  pub serves : ServesIn new g (used_texts (last_in new) later)
  pub state : state_of new ≡ state_of old
  pub builds : IfOk result (Builds large g bound (used_texts (last_in old) kept) (used_texts (last_in new) later) before after)
  pub last : AreAmong (last_in new) later
  pub cut_off : result ≡ Err NoMemory → IsCutOff large g (used_texts (last_in old) kept) (used_texts (last_in new) later) before after
  pub err : OnErr result (new ≡ old)

-- a build may start so: the graph has rails, and each of its nodes a state
pub record IsStart (g : GraphData) (state : List Tern) : Type 0 where
  pub railed : IsRailed g
  pub sound : IsSoundState g state

-- a build lacked memory, or was refused: then what is kept, and what was analysed, is as it was
abbrev pub Refuses : ℕ → GraphData → KeptData → KeptData → List GroupTextData → List GroupTextData → BuildFault → Type 0
Refuses large g kept later before after fault = (fault ≡ NoMemory) ⊎ (TellsRefused large g fault × (later ≡ kept) × (after ≡ before))

-- what a build leaves of what is kept: one that lacked memory was cut off, one that was refused left all, and the bound stays
pub record LeavesKept {X : Type 0} (large : ℕ) (g : GraphData) (kept later : KeptData) (before after : List GroupTextData) (result : Result X BuildFault) : Type 0 where
  pub cut_off : result ≡ Err NoMemory → IsCutOff large g (texts_of kept) (texts_of later) before after
  pub bound : later.bound ≡ kept.bound
  pub refused : IfErr result (Refuses large g kept later before after)

-- a build of a stage was done, refused or cut off: what is held then is as it is to be, and what is kept has the bound that it had
pub record BuildsHeld (large : ℕ) (g : GraphData) (old : FaultData) (new : Held) (kept later : KeptData) (before after : List GroupTextData)
    (result : Result ℕ BuildFault) : Type 0 where
  pub well : IsWell new
  pub builds : BuildsStage large g kept.bound old (data_of new) (texts_of kept) (texts_of later) before after result
  pub bound : later.bound ≡ kept.bound
  pub refused : IfErr result (Refuses large g kept later before after)

-- a stage is built, with up to so many members in a group without a text, and what is kept has no bound: a build would find nothing new
abbrev pub StaysBuilt : ℕ → KeptData → Held → Type 0
StaysBuilt large kept (held.Whole stage) = ⊥
StaysBuilt large kept (held.Built built) = (built.large ≡ large) × (kept.bound ≡ None)
StaysBuilt large kept (held.Waiting waiting) = ⊥

-- a whole stage was built from a state
pub record BuildsAnew (large : ℕ) (g : GraphData) (bound : Option ℕ) (state : List Tern) (kept later before after : List GroupTextData) (stage : StageData)
    (count : ℕ) : Type 0 where
  pub fits : whole.FitsIn g stage.machine
  pub serves : whole.ServesIn stage g (used_texts (whole.last_in stage.machine) later)
  pub state_is : stage.state ≡ state
  pub builds : Builds large g bound kept (used_texts (whole.last_in stage.machine) later) before after count
  pub last : AreAmong (whole.last_in stage.machine) later

-- a copy of a graph, and a record that begins in a state of it
pub record BeginsGoodIn (g : GraphData) (state : List Tern) (own : GraphData) (good : GoodData) : Type 0 where
  pub own_is : own ≡ g
  pub begins : BeginsGood g state good

-- a machine was finished in the state that is meant, and goes on so: its texts stand in front of what is kept, which is what a build leaves
pub record FinishesNext (large : ℕ) (g : GraphData) (bound : Option ℕ) (good : GoodData) (state : List Tern) (m : MachineData)
    (kept later before after : List GroupTextData) (course : Course) (count : ℕ) : Type 0 where
  pub goes : GoesIn good g m state course
  pub known : IsKeptBy g m.last m
  pub front : StandInFront m.last later
  pub builds : Builds large g bound kept later before after count

-- these texts were put in front of what is kept if memory lacked; else that is the same
abbrev pub PutsLast : List GroupTextData → BuildFault → KeptData → KeptData → Type 0
PutsLast last fault old new = ((fault ≡ NoMemory) × (texts_of new ≡ used_texts last (texts_of old))) ⊎ ((fault ≢ NoMemory) × (new ≡ old))
