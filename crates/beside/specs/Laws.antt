-- Laws of a machine beside a good run, each proved as the contract of a function in `src/laws.rt`.
-- After Bryant and Schuster, "Performance Evaluation of FMOSSIM, a Concurrent Switch-Level Fault Simulator", 1985.
use Rattle.std.specs.Prelude.{◌≡◌, ℕ, ◌<◌, ◌≤◌, ◌⊎◌, Bool, List, length, slice_set}
use Rattle.ternary.specs.declared.tern.Tern.{Tern}
use Rattle.switch_paths.specs.declared.TheConstants.{RAILS}
use Rattle.switch_paths.specs.Switching.{state_at}
use Rattle.switch_paths.specs.Graphs.{GraphData, IsWired}
use Rattle.group_meaning.specs.Groups.{Group}
use Rattle.group_rest.specs.Alike.{IsAlike}
use Rattle.part_words.specs.declared.change.Change.{Change}
use Rattle.machine_parts.specs.declared.part.MachinePart.{MachinePart}
use Rattle.machine_parts.specs.Marking.{IsMarked}
use Rattle.machine_parts.specs.Parts.{Stands}
use Rattle.machine_parts.specs.Running.{IsTaken}
use Rattle.machine_parts.specs.Stepping.{Concerns}
use Rattle.machine_laws.specs.Machines.{MachineData, Places}
use Rattle.machine_laws.specs.Fitting.{IsPartOf, FitsGraph}
use Rattle.run_beside.specs.Agreeing.{IsMove}
use Rattle.unit_step.specs.Beside.{AdvancesBeside, KeepsPartsApart}
use Rattle.beside.specs.Fitting.{FitsBeside}

-- a step of a machine beside a step of the good run is a step of the fault's graph, of the same kind, and the machine fits beside the good run again
abbrev pub StepsFitBeside : Type 0
StepsFitBeside =
    (joining : Bool) (g h : GraphData) (good good_next : List Tern) (changes : List Change) (apart new_apart : List Bool) (old new : MachineData) →
    IsWired g → IsWired h → FitsBeside g h good apart old → IsMove joining g good good_next → IsTaken changes good good_next →
    AdvancesBeside joining changes apart new_apart old new → KeepsPartsApart new.parts new_apart good_next new.state →
    IsMove joining h old.state new.state × FitsBeside g h good_next new_apart new

-- a machine that fits the fault's graph, with all its parts marked and apart, fits beside any run over as many nodes
abbrev pub MachinesStartBeside : Type 0
MachinesStartBeside =
    (g h : GraphData) (good : List Tern) (apart : List Bool) (m : MachineData) → FitsGraph h m → length m.marks ≡ length m.parts →
    length apart ≡ length m.parts → length good ≡ length m.state → ((k : ℕ) → k < length m.parts → IsMarked m.marks k) →
    ((k : ℕ) → k < length m.parts → IsMarked apart k) → FitsBeside g h good apart m

-- the parts that a node concerns are put apart, and no others
pub record PutsApart (m : MachineData) (node : ℕ) (old new : List Bool) : Type 0 where
  pub count : length new ≡ length old
  pub stays : (k : ℕ) → IsMarked old k → IsMarked new k
  pub set : (k : ℕ) → Concerns m.parts k node → IsMarked new k
  pub only : (k : ℕ) → IsMarked new k → IsMarked old k ⊎ Concerns m.parts k node

-- a machine fits beside a run if a node that is no rail is placed in both, at the same value or not, and the parts are put apart that it concerns
abbrev pub PlacingFitsBeside : Type 0
PlacingFitsBeside =
    (g h : GraphData) (good : List Tern) (apart new_apart : List Bool) (node : ℕ) (value bad_value : Tern) (old new : MachineData) → IsWired h → RAILS ≤ node →
    FitsBeside g h good apart old → Places node bad_value old new → PutsApart old node apart new_apart →
    FitsBeside g h (slice_set good node value) new_apart new

-- of the parts that are apart some go back: those that aren't among these, aren't marked, and that no node concerns which differs
pub record GoBack (touched : List Bool) (m : MachineData) (good : List Tern) (old new : List Bool) : Type 0 where
  pub count : length new ≡ length old
  pub fewer : (k : ℕ) → IsMarked new k → IsMarked old k
  pub untouched : (k : ℕ) → IsMarked old k → (¬ IsMarked new k) → ¬ IsMarked touched k
  pub unmarked : (k : ℕ) → IsMarked old k → (¬ IsMarked new k) → ¬ IsMarked m.marks k
  pub agreed : (k : ℕ) → IsMarked old k → (¬ IsMarked new k) → (node : ℕ) → Concerns m.parts k node → state_at m.state node ≡ state_at good node

-- a machine fits beside a run if parts go back whose groups stand alike in both graphs
abbrev pub GoingBackFitsBeside : Type 0
GoingBackFitsBeside =
    (g h : GraphData) (good : List Tern) (touched apart new_apart : List Bool) (m : MachineData) → FitsBeside g h good apart m →
    ((k : ℕ) (part : MachinePart) → Stands m.parts k part → (¬ IsMarked touched k) → (group : Group) → IsPartOf h group part → IsAlike g h group) →
    GoBack touched m good apart new_apart → FitsBeside g h good new_apart m
