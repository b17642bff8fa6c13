-- What a stage holds whose first run is recorded: a machine that is recorded, or goes beside the record, or by itself.
-- After Bryant and Schuster, "Performance Evaluation of FMOSSIM, a Concurrent Switch-Level Fault Simulator", 1985.
use Rattle.std.specs.Prelude.{◌≡◌, ℕ, Bool, true, List, length, All, Option, Some, IfSome}
use Rattle.ternary.specs.declared.tern.Tern.{Tern}
use Rattle.switch_paths.specs.Graphs.{GraphData, nodes}
use Rattle.switch_paths.specs.Rails.{IsRailed, IsSound}
use Rattle.vicinity.specs.NodeSets.{NodeSetData}
use Rattle.machine_laws.specs.Machines.{MachineData}
use Rattle.machine_laws.specs.Fitting.{Covers, FitsGraph, IsKeptBy}
use Rattle.edits_between.specs.Leading.{CodedAreAlike, DifferAt, EarlyAreAlike}
use Rattle.good_phases.specs.declared.beats.Beat.{Beat}
use Rattle.good_phases.specs.Phases.{GoodData, IsBeat}
use Rattle.beside_run.specs.Running.{AreAlikeBut, BesideData, ComesNext, IsRunBeside}
use Rattle.fault_stage.specs.declared.built.Course.{Course}
use Rattle.fault_stage.specs.declared.built.Course.TheVariants.{Recorded, Beside, Alone}
use Rattle.fault_stage.specs.declared.built.Built.{Built}
use Rattle.fault_stage.specs.declared.waiting.LastRun.{LastRun}
use Rattle.fault_stage.specs.declared.held.Held.{Held}
use Rattle.fault_stage.specs.declared.held.Held.TheVariants as held
use Rattle.fault_stage.specs.Passing.{IsPassed}
use Rattle.fault_stage.specs.Stages.{SettlesSeen}

-- the machine goes by itself in this state
pub record GoesAlone (g : GraphData) (m : MachineData) (state : List Tern) : Type 0 where
  pub fits : FitsGraph g m
  pub state_is : m.state ≡ state

-- so does one whose run is recorded, in the record's graph
pub record GoesRecorded (good : GoodData) (g : GraphData) (m : MachineData) (state : List Tern) : Type 0 where
  pub alone : GoesAlone g m state
  pub graph : good.graph ≡ g
  pub known : length good.run.known ≡ length m.state

-- the machine goes on so in the state that is meant
abbrev pub GoesIn : GoodData → GraphData → MachineData → List Tern → Course → Type 0
GoesIn good g m state Recorded = GoesRecorded good g m state
GoesIn good g m state (Beside run next) = IsRunBeside good.graph good.run g m state run
GoesIn good g m state Alone = GoesAlone g m state

-- what a stage that is built keeps
pub record IsBuilt (b : Built) : Type 0 where
  pub counted : length b.state.items ≡ nodes b.graph
  pub railed : IsRailed b.graph
  pub sound : IsSound b.state.items
  pub known : IsKeptBy b.graph b.machine.last b.machine
  pub goes : GoesIn b.good b.graph b.machine b.state.items b.course
  pub passes : All (IsPassed b.graph) b.passes.items
  pub apart : DifferAt b.graph b.good.graph b.apart

-- a machine covers a graph, in a sound state, and each text whose code a part has is one of its last build
pub record IsCovered (g : GraphData) (m : MachineData) : Type 0 where
  pub covers : Covers g m
  pub known : IsKeptBy g m.last m
  pub sound : IsSound m.state

-- the machine of the last run covers its graph, if there is one, and it is known where that graph differs from the good run's
pub record IsHeld (l : LastRun) : Type 0 where
  pub machine : IfSome l.machine (IsCovered l.graph)
  pub apart : DifferAt l.graph l.good.graph l.apart

-- what a stage that waits keeps of its last run, unless an edit of the machine lacked memory
abbrev pub IsLastRun : LastRun → Type 0
IsLastRun l = l.covered ≡ true → IsHeld l

-- what is held is as it is to be
abbrev pub IsWell : Held → Type 0
IsWell (held.Whole stage) = Unit {0}
IsWell (held.Built built) = IsBuilt built
IsWell (held.Waiting waiting) = IfSome waiting.last_run IsLastRun

-- a machine settled from the state that is meant, and goes on
pub record SettlesIn {S : Type 0} (see : S → List Tern → S) (g : GraphData) (limit steps : ℕ) (joined : Bool) (state : List Tern) (old new : MachineData)
    (good : GoodData) (course : Course) (before after : S) : Type 0 where
  pub goes : GoesIn good g new new.state course
  pub last : new.last ≡ old.last
  pub takes : SettlesSeen see g limit steps joined state new.state before after

-- a phase of the record is the one that a run beside it takes next
pub record TakesNext (good : GoodData) (m : MachineData) (limit : ℕ) (run : BesideData) (beat : Beat) : Type 0 where
  pub is : IsBeat good.graph good.run beat
  pub comes : ComesNext beat limit (length m.state) run

-- a machine that goes on by itself: it fits the graph, has the state, and the texts of its last build
pub record IsAlone (g : GraphData) (state : List Tern) (old new : MachineData) : Type 0 where
  pub goes : GoesAlone g new state
  pub last : new.last ≡ old.last

-- a node was given a state, in the machine or for the phase to come
pub record Gives (good : GoodData) (g : GraphData) (state : List Tern) (old new : MachineData) (course : Course) : Type 0 where
  pub goes : GoesIn good g new state course
  pub last : new.last ≡ old.last

-- a machine covers a graph, in this state
pub record IsCoveredIn (g : GraphData) (state : List Tern) (m : MachineData) : Type 0 where
  pub covered : IsCovered g m
  pub state_is : m.state ≡ state

-- a machine was led to a graph from another one, in which it had so many parts: each of these, and each part that has code, is that of a group that
-- stands alike there
pub record IsLed (base g : GraphData) (count : ℕ) (state : List Tern) (m : MachineData) : Type 0 where
  pub covered : IsCovered g m
  pub state_is : m.state ≡ state
  pub alike : CodedAreAlike base g m
  pub early : EarlyAreAlike base count g m

-- there is such a machine
pub record IsLedIn (base g : GraphData) (count : ℕ) (state : List Tern) (found : Option MachineData) : Type 0 where
  pub machine : MachineData
  pub there : found ≡ Some machine
  pub led : IsLed base g count state machine

-- these parts are apart in a run that begins: each other one stands alike in both graphs
pub record IsTouched (base g : GraphData) (m : MachineData) (touched : NodeSetData) : Type 0 where
  pub counted : length touched.inside ≡ length m.parts
  pub alike : AreAlikeBut base g m touched.inside
