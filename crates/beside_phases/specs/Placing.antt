-- A node that is placed in both runs.
-- After Bryant and Schuster, "Performance Evaluation of FMOSSIM, a Concurrent Switch-Level Fault Simulator", 1985.
use Rattle.std.specs.Prelude.{◌≡◌, ◌≢◌, ℕ, ◌<◌, ◌≤◌, ◌⊎◌, Bool, List, length, slice_set}
use Rattle.ternary.specs.declared.tern.Tern.{Tern}
use Rattle.switch_paths.specs.declared.TheConstants.{RAILS}
use Rattle.switch_paths.specs.Graphs.{GraphData, IsWired}
use Rattle.machine_parts.specs.Marking.{IsMarked}
use Rattle.machine_parts.specs.Stepping.{Concerns}
use Rattle.machine_laws.specs.Machines.{MachineData, KeepsBuild, KeepsParts}
use Rattle.unit_step.specs.Among.{PlacesAmong}
use Rattle.beside.specs.Fitting.{FitsBeside}

-- the parts that a node concerns come apart if it differs, and no others
pub record ComesApart (Differs : Type 0) (m : MachineData) (node : ℕ) (old new : List Bool) : Type 0 where
  pub count : length new ≡ length old
  pub stays : (k : ℕ) → IsMarked old k → IsMarked new k
  pub set : Differs → (k : ℕ) → Concerns m.parts k node → IsMarked new k
  pub only : (k : ℕ) → IsMarked new k → IsMarked old k ⊎ Concerns m.parts k node

-- a machine fits beside a run if a node that is no rail is placed in both, the parts come apart that it concerns if it differs, and those are marked that it
-- concerns and that are apart
abbrev pub PlacingBothFitsBeside : Type 0
PlacingBothFitsBeside =
    (g h : GraphData) (good : List Tern) (apart new_apart : List Bool) (node : ℕ) (value bad_value : Tern) (old new : MachineData) → IsWired h → RAILS ≤ node →
    node < length old.state → FitsBeside g h good apart old → ComesApart (value ≢ bad_value) old node apart new_apart →
    PlacesAmong node bad_value new_apart old new → FitsBeside g h (slice_set good node value) new_apart new

-- and so it was, and the machine keeps its parts
pub record PlacesBoth (g h : GraphData) (node : ℕ) (value bad_value : Tern) (good good_new : List Tern) (old new : MachineData) (apart_new : List Bool) : Type 0 where
  pub fits : FitsBeside g h good_new apart_new new
  pub good_is : good_new ≡ slice_set good node value
  pub state_is : new.state ≡ slice_set old.state node bad_value
  pub build : KeepsBuild old new
  pub held : KeepsParts old new
