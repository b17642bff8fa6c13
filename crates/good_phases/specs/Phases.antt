-- The phases of a good run, as they are recorded.
-- After Bryant and Schuster, "Performance Evaluation of FMOSSIM, a Concurrent Switch-Level Fault Simulator", 1985.
use Rattle.std.specs.Prelude.{◌≡◌, ℕ, ◌+◌, ◌<◌, ◌⊎◌, Bool, true, false, List, [], ◌∷◌, ◌++◌, length, All}
use Rattle.ternary.specs.declared.tern.Tern.{Tern}
use Rattle.switch_paths.specs.Graphs.{GraphData}
use Rattle.switch_paths.specs.Rails.{IsSound}
use Rattle.settling.specs.Passing.{SettlesThrough, see_all, last_state}
use Rattle.machine_laws.specs.Machines.{MachineData}
use Rattle.machine_laws.specs.Fitting.{FitsGraph}
use Rattle.good_run.specs.Recording.{RunData, look_at, state_before}
use Rattle.beside.specs.Phases.{IsPhaseOf}
use Rattle.beside_phases.specs.Counting.{MovingThrough}
use Rattle.good_phases.specs.declared.beats.Beat.{Beat}

-- the looks of a phase of the record: the one with which it begins, and those behind it up to its end are those of a phase under its limit; the rails have their
-- states where it begins and where it ends
pub record IsBeat (g : GraphData) (run : RunData) (beat : Beat) : Type 0 where
  pub inside : beat.begin < length run.shown
  pub phase : IsPhaseOf g beat.limit run (beat.begin + 1) beat.end
  pub begins_sound : IsSound (state_before run (beat.begin + 1))
  pub ends_sound : IsSound (state_before run beat.end)

-- the graph of a good run, the record of the run, and its phases
pub record GoodData : Type 0 where
  pub graph : GraphData
  pub run : RunData
  pub beats : List Beat

-- each of the phases is one of the record
abbrev pub AreBeats : GoodData → Type 0
AreBeats good = All (IsBeat good.graph good.run) good.beats

-- a record begins in a state
pub record BeginsGood (g : GraphData) (state : List Tern) (good : GoodData) : Type 0 where
  pub graph : good.graph ≡ g
  pub start : good.run.start ≡ state
  pub known : good.run.known ≡ state
  pub none : good.beats ≡ []

-- a machine took replacements of its graph that each changed something: it passed through states, each of which was noted and shown
pub record PassesNoted {S : Type 0} (see : S → List Tern → S) (g : GraphData) (limit count : ℕ) (old new : MachineData) (run_old run_new : RunData)
    (before after : S) : Type 0 where
  pub fits : FitsGraph g new
  pub last_is : new.last ≡ old.last
  pub passed : List (List Tern)
  pub moving : MovingThrough g limit 0 old.state passed
  pub last : new.state ≡ last_state old.state passed
  pub number : count ≡ length passed
  pub noted : run_new ≡ see_all (look_at false) run_old passed
  pub seen : after ≡ see_all see before passed

-- it settled so
pub record SettlesNoted {S : Type 0} (see : S → List Tern → S) (g : GraphData) (limit steps : ℕ) (joined : Bool) (old new : MachineData)
    (run_old run_new : RunData) (before after : S) : Type 0 where
  pub fits : FitsGraph g new
  pub last_is : new.last ≡ old.last
  pub passed : List (List Tern)
  pub through : SettlesThrough g old.state limit passed joined
  pub last : new.state ≡ last_state old.state passed
  pub number : steps ≡ length passed
  pub noted : run_new ≡ see_all (look_at false) run_old passed
  pub seen : after ≡ see_all see before passed

-- the phases are those from before, and perhaps one more, if nothing was left out of the record
abbrev pub NotesBeat : RunData → Beat → List Beat → List Beat → Type 0
NotesBeat run beat old new = (new ≡ old) ⊎ ((run.whole ≡ true) × (new ≡ old ++ beat ∷ []))

-- a machine settled in the graph of a good run, and the record goes on: the graph is the same, and the machine's state is known
pub record SettlesGood {S : Type 0} (see : S → List Tern → S) (limit steps : ℕ) (joined : Bool) (old new : MachineData) (good good_new : GoodData)
    (before after : S) : Type 0 where
  pub graph : good_new.graph ≡ good.graph
  pub known : good_new.run.known ≡ new.state
  pub fits : FitsGraph good.graph new
  pub last_is : new.last ≡ old.last
  pub passed : List (List Tern)
  pub through : SettlesThrough good.graph old.state limit passed joined
  pub last : new.state ≡ last_state old.state passed
  pub number : steps ≡ length passed
  pub seen : after ≡ see_all see before passed
