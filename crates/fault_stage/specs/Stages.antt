-- A stage whose first run is recorded, and whose later ones go beside it, as a session sees it.
-- After Bryant and Schuster, "Performance Evaluation of FMOSSIM, a Concurrent Switch-Level Fault Simulator", 1985.
use Rattle.std.specs.Prelude.{◌≡◌, ℕ, ◌-◌, Bool, List, [], vec_len, vec_capacity, Option, None, Some}
use Rattle.ternary.specs.declared.tern.Tern.{Tern}
use Rattle.switch_paths.specs.Graphs.{GraphData, nodes}
use Rattle.settling.specs.Settling.{Settles}
use Rattle.group_text.specs.Texts.{GroupTextData}
use Rattle.group_analysis.specs.Using.{used_texts}
use Rattle.column_stage.specs.Acts.{Act}
use Rattle.column_stage.specs.Columns.{AreAmong, with_new_nodes}
use Rattle.column_stage.specs.Seeing.{PhaseThrough, SeesStates}
use Rattle.column_stage.specs.Standing.{StandFirst}
use Rattle.machine_laws.specs.Machines.{MachineData}
use Rattle.machine_stage.specs.Machines as whole
use Rattle.machine_stage.specs.Machines.{StageData}
use Rattle.fault_stage.specs.declared.built.Built.{Built}
use Rattle.fault_stage.specs.declared.waiting.LastRun.{LastRun}
use Rattle.fault_stage.specs.declared.waiting.Waiting.{Waiting}
use Rattle.fault_stage.specs.declared.held.Held.{Held}
use Rattle.fault_stage.specs.declared.held.Held.TheVariants as held

-- a stage that is built: the graph that it is of, its state, for how many new nodes there is room, the texts of its last build, and up to how many members
-- groups without a text might have then
pub record ReadyData : Type 0 where
  pub graph : GraphData
  pub state : List Tern
  pub spare : ℕ
  pub texts : List GroupTextData
  pub large : ℕ

-- a stage that waits for its build: its state, for how many new nodes there is room, and the texts of the last build of what it holds on to
pub record WaitData : Type 0 where
  pub state : List Tern
  pub spare : ℕ
  pub texts : List GroupTextData

-- a stage as contracts see it: one that holds on to nothing; one that is built, and records its run, or goes beside a recorded one; or one that waits for
-- its build
pub data FaultData : Type 0 where
  Plain : StageData → FaultData
  Ready : ReadyData → FaultData
  Waits : WaitData → FaultData

-- the texts of the last build of a machine, if there is one
abbrev pub texts_in : Option MachineData → List GroupTextData
texts_in None = []
texts_in (Some machine) = machine.last

-- of what a stage holds on to
abbrev pub texts_held : Option LastRun → List GroupTextData
texts_held None = []
texts_held (Some last_run) = texts_in last_run.machine

abbrev pub ready_of : Built → ReadyData
ready_of built = record {
  graph = built.graph;
  state = built.state.items;
  spare = vec_capacity built.state - vec_len built.state;
  texts = built.machine.last;
  large = built.large;
}

abbrev pub wait_of : Waiting → WaitData
wait_of waiting = record {
  state = waiting.state.items;
  spare = vec_capacity waiting.state - vec_len waiting.state;
  texts = texts_held waiting.last_run;
}

-- what is held, as contracts see it
abbrev pub data_of : Held → FaultData
data_of (held.Whole stage) = Plain stage
data_of (held.Built built) = Ready (ready_of built)
data_of (held.Waiting waiting) = Waits (wait_of waiting)

-- one column
abbrev pub columns_on : FaultData → ℕ
columns_on stage = 1

abbrev pub state_of : FaultData → List Tern
state_of (Plain stage) = stage.state
state_of (Ready ready) = ready.state
state_of (Waits wait) = wait.state

-- it has the stage's state
abbrev pub states_in : FaultData → ℕ → List Tern
states_in stage column = state_of stage

abbrev pub spare_in : FaultData → ℕ
spare_in (Plain stage) = stage.spare
spare_in (Ready ready) = ready.spare
spare_in (Waits wait) = wait.spare

-- the texts of the last build: those of one that is built were put in front of what is kept
abbrev pub last_in : FaultData → List GroupTextData
last_in (Plain stage) = whole.last_in stage.machine
last_in (Ready ready) = []
last_in (Waits wait) = []

-- these texts are kept, and stand in front already
pub record StandInFront (texts kept : List GroupTextData) : Type 0 where
  pub among : AreAmong texts kept
  pub front : used_texts texts kept ≡ kept

-- one that is built serves its own graph alone, whose texts stand in front of what is kept
pub record ServesReady (ready : ReadyData) (g : GraphData) (kept : List GroupTextData) : Type 0 where
  pub graph : g ≡ ready.graph
  pub first : StandFirst ready.large g kept
  pub front : StandInFront ready.texts kept

-- what is there serves the graph; if it waits, it serves any
abbrev pub ServesIn : FaultData → GraphData → List GroupTextData → Type 0
ServesIn (Plain stage) g kept = whole.ServesIn stage g kept
ServesIn (Ready ready) g kept = ServesReady ready g kept
ServesIn (Waits wait) g kept = StandInFront wait.texts kept

-- what is there fits the graph
abbrev pub FitsIn : FaultData → GraphData → Type 0
FitsIn (Plain stage) g = whole.FitsIn g stage.machine
FitsIn (Ready ready) g = g ≡ ready.graph
FitsIn (Waits wait) g = ⊥

-- as at a start, when nothing was done to it
abbrev pub IsAtStart : FaultData → Type 0
IsAtStart (Plain stage) = stage.machine ≡ None
IsAtStart (Ready ready) = ⊥
IsAtStart (Waits wait) = Unit {0}

-- no act says more of it than what it makes of the states
abbrev pub DidAct : Act → FaultData → FaultData → Type 0
DidAct act old new = Unit {0}

-- after what was done in the graph the stage serves it and fits it if it did before
pub record StaysOn (g : GraphData) (old new : FaultData) : Type 0 where
  pub last : last_in new ≡ last_in old
  pub serves : (kept : List GroupTextData) → ServesIn old g kept → ServesIn new g kept
  pub fits : FitsIn old g → FitsIn new g

-- after an edit of the graph each new node is X, and what served the graph before serves the one after
pub record EditsStage (g : GraphData) (old new : FaultData) (kept later : List GroupTextData) : Type 0 where
  pub state : state_of new ≡ with_new_nodes (state_of old) (nodes g)
  pub kept_is : used_texts (last_in new) later ≡ used_texts (last_in old) kept
  pub last : AreAmong (last_in new) later
  pub serves : ServesIn new g (used_texts (last_in old) kept)

-- a stage that waits went on waiting after an edit of the graph: each new node is X
abbrev pub WaitsOn : GraphData → Held → Held → Type 0
WaitsOn g (held.Waiting old) (held.Waiting new) = (new.state.items ≡ with_new_nodes old.state.items (nodes g)) × (texts_held new.last_run ≡ texts_held old.last_run)
WaitsOn g old new = ⊥

-- a state settles, and an observer saw the states that it passed through
pub record SettlesSeen {S : Type 0} (see : S → List Tern → S) (g : GraphData) (limit steps : ℕ) (joined : Bool) (old new : List Tern) (before after : S) :
    Type 0 where
  pub settles : Settles g old limit new steps joined
  pub seen : SeesStates see (PhaseThrough g limit old steps) old new before after
