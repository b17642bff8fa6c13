-- A whole run under a fault beside a recorded good run.
-- After Bryant and Schuster, "Performance Evaluation of FMOSSIM, a Concurrent Switch-Level Fault Simulator", 1985.
use Rattle.std.specs.Prelude.{◌≡◌, ℕ, ◌+◌, ◌-◌, ◌^◌, ◌<◌, ◌≤◌, ◌⊎◌, Bool, true, List, length, slice_set, Contains, Option, None, Some}
use Rattle.ternary.specs.declared.tern.Tern.{Tern}
use Rattle.switch_paths.specs.declared.TheConstants.{RAILS}
use Rattle.switch_paths.specs.Graphs.{GraphData}
use Rattle.switch_paths.specs.Rails.{IsSound}
use Rattle.switch_paths.specs.Switching.{state_at}
use Rattle.group_meaning.specs.Groups.{Group}
use Rattle.group_rest.specs.Alike.{IsAlike}
use Rattle.settling.specs.Passing.{SettlesThrough, last_state, see_all}
use Rattle.part_words.specs.declared.change.Change.{Change}
use Rattle.machine_parts.specs.declared.part.MachinePart.{MachinePart}
use Rattle.machine_parts.specs.Marking.{IsMarked}
use Rattle.machine_parts.specs.Parts.{Stands}
use Rattle.machine_parts.specs.Running.{IsTaken}
use Rattle.vicinity.specs.NodeSets.{NodeSetData, IsIn}
use Rattle.machine_laws.specs.Machines.{MachineData, KeepsBuild, KeepsParts}
use Rattle.machine_laws.specs.Fitting.{FitsGraph, IsPartOf}
use Rattle.good_run.specs.Recording.{RunData, state_before}
use Rattle.beside.specs.Fitting.{FitsBeside}
use Rattle.good_phases.specs.declared.beats.Beat.{Beat}

-- each part but these is that of a group that stands alike in both graphs
abbrev pub AreAlikeBut : GraphData → GraphData → MachineData → List Bool → Type 0
AreAlikeBut g h m touched =
    (k : ℕ) (part : MachinePart) → Stands m.parts k part → (¬ IsMarked touched k) → (group : Group) → IsPartOf h group part → IsAlike g h group

-- a run beside a good one: the good state and how many looks of the record led to it; the parts that are apart, those that the fault touches, and room for
-- as many; and the nodes that were given states since the last phase
pub record BesideData : Type 0 where
  pub good : List Tern
  pub at : ℕ
  pub apart : NodeSetData
  pub touched : NodeSetData
  pub room : NodeSetData
  pub given : NodeSetData

-- the machine fits the fault's graph beside the good run, at this place of the record; its state is the one that is meant, but for nodes that were given
-- others since, of which none is a rail
pub record IsRunBeside (g : GraphData) (run : RunData) (h : GraphData) (m : MachineData) (state : List Tern) (b : BesideData) : Type 0 where
  pub fits : FitsBeside g h b.good b.apart.inside m
  pub here : b.good ≡ state_before run b.at
  pub sound : IsSound b.good
  pub touched_counted : length b.touched.inside ≡ length m.parts
  pub room_counted : length b.room.inside ≡ length m.parts
  pub given_counted : length b.given.inside ≡ length m.state
  pub state_counted : length state ≡ length m.state
  pub lags : (node : ℕ) → (¬ IsIn b.given.inside node) → state_at m.state node ≡ state_at state node
  pub free : (node : ℕ) → IsIn b.given.inside node → RAILS ≤ node
  pub alike : AreAlikeBut g h m b.touched.inside

-- nodes were placed in both runs: the machine fits beside the good one still, with its parts
pub record PlacesSome (g h : GraphData) (old new : MachineData) (good_new : List Tern) (apart_new : List Bool) : Type 0 where
  pub fits : FitsBeside g h good_new apart_new new
  pub build : KeepsBuild old new
  pub held : KeepsParts old new

-- each node has the state that it had, or the one that is meant
abbrev pub StaysOrComes : List Tern → List Tern → List Tern → Type 0
StaysOrComes state old new = (node : ℕ) → (state_at new node ≡ state_at old node) ⊎ (state_at new node ≡ state_at state node)

-- of these nodes none but those listed has another state than the one that is meant
abbrev pub LagsAt : List ℕ → List Tern → List Tern → Type 0
LagsAt list state now = (node : ℕ) → (state_at now node ≡ state_at state node) ⊎ Contains list node

-- one change: its node gets its value in the good run, and under the fault the state that is meant
pub record PlacesChange (g h : GraphData) (change : Change) (state : List Tern) (old new : MachineData) (good good_new : List Tern) (apart_new : List Bool) :
    Type 0 where
  pub places : PlacesSome g h old new good_new apart_new
  pub good_is : good_new ≡ slice_set good change.node change.value
  pub comes : StaysOrComes state old.state new.state

-- changes lead the good run to where a phase begins
pub record PlacesChanges (g h : GraphData) (changes : List Change) (state : List Tern) (old new : MachineData) (good good_new : List Tern) (apart_new : List Bool) :
    Type 0 where
  pub places : PlacesSome g h old new good_new apart_new
  pub taken : IsTaken changes good good_new
  pub comes : StaysOrComes state old.state new.state

-- the phase begins in both runs: the machine has the state that is meant, and no node was given another since
pub record BeginsPhase (g : GraphData) (run : RunData) (h : GraphData) (at : ℕ) (old new : MachineData) (state good_new : List Tern)
    (apart_new given given_new : NodeSetData) : Type 0 where
  pub places : PlacesSome g h old new good_new apart_new.inside
  pub here : good_new ≡ state_before run (at + 1)
  pub state_is : new.state ≡ state
  pub given_counted : length given_new.inside ≡ length given.inside
  pub given_none : (node : ℕ) → ¬ IsIn given_new.inside node

-- a node is given a state
pub record GivesNode (node : ℕ) (b b_new : BesideData) : Type 0 where
  pub same : b_new ≡ record b { given = b_new.given }
  pub inside : b_new.given.inside ≡ slice_set b.given.inside node true

-- the parts behind the first so many are in the set, and no others
pub record HasLater (count : ℕ) (m : MachineData) (set : NodeSetData) : Type 0 where
  pub counted : length set.inside ≡ length m.parts
  pub all : (k : ℕ) → count ≤ k → k < length m.parts → IsIn set.inside k
  pub only : (k : ℕ) → IsIn set.inside k → count ≤ k

-- the machine keeps all but its marks
pub record StartsBeside (old new : MachineData) : Type 0 where
  pub same : new ≡ record old { marks = new.marks }

-- the run under a fault settled from the state that was meant
pub record SettlesRun {S : Type 0} (see : S → List Tern → S) (g : GraphData) (run : RunData) (h : GraphData) (limit steps : ℕ) (joined : Bool) (old new : MachineData)
    (state : List Tern) (b : BesideData) (before after : S) : Type 0 where
  pub is : IsRunBeside g run h new new.state b
  pub last_is : new.last ≡ old.last
  pub passed : List (List Tern)
  pub through : SettlesThrough h state limit passed joined
  pub last : new.state ≡ last_state state passed
  pub number : steps ≡ length passed
  pub seen : after ≡ see_all see before passed

-- a machine goes on by itself: it fits the graph, has the state, and keeps its parts and what its last build left
pub record Leaves (h : GraphData) (state : List Tern) (old new : MachineData) : Type 0 where
  pub fits : FitsGraph h new
  pub state_is : new.state ≡ state
  pub build : KeepsBuild old new
  pub held : KeepsParts old new

-- a machine goes beside a good run in the state that is meant, or by itself in this state
abbrev pub GoesBeside : GraphData → RunData → GraphData → MachineData → List Tern → Option BesideData → Type 0
GoesBeside g run h m state None = FitsGraph h m × (m.state ≡ state)
GoesBeside g run h m state (Some b) = IsRunBeside g run h m state b

-- it begins so in the state that it had, and keeps its parts and what its last build left
pub record BeginsRun (g : GraphData) (run : RunData) (h : GraphData) (old new : MachineData) (told : Option BesideData) : Type 0 where
  pub goes : GoesBeside g run h new old.state told
  pub build : KeepsBuild old new
  pub held : KeepsParts old new

-- the phase of the record is the one that comes next for a run in a machine of so many nodes, it has this limit, and its steps and more can be counted
pub record ComesNext (beat : Beat) (limit count : ℕ) (b : BesideData) : Type 0 where
  pub next : beat.begin ≡ b.at
  pub limit_is : beat.limit ≡ limit
  pub few : (beat.end - (beat.begin + 1)) + beat.limit + count < 2 ^ 62
