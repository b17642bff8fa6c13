-- A machine that fits a graph beside a run over another one: the graph with a fault, and the good run over the circuit as it is.
-- After Bryant and Schuster, "Performance Evaluation of FMOSSIM, a Concurrent Switch-Level Fault Simulator", 1985.
use Rattle.std.specs.Prelude.{◌≡◌, ℕ, Bool, true, List, length, take, replicate}
use Rattle.ternary.specs.declared.tern.Tern.{Tern}
use Rattle.switch_paths.specs.Graphs.{GraphData}
use Rattle.group_meaning.specs.Groups.{Group}
use Rattle.group_rest.specs.Alike.{IsAlike}
use Rattle.group_rest.specs.Rest.{Rests}
use Rattle.machine_parts.specs.declared.part.MachinePart.{MachinePart}
use Rattle.machine_parts.specs.Marking.{IsMarked}
use Rattle.machine_parts.specs.Parts.{Stands, IsStale}
use Rattle.machine_laws.specs.Machines.{MachineData}
use Rattle.machine_laws.specs.Fitting.{IsPartOf, FitsGraph}
use Rattle.unit_step.specs.Beside.{KeepsPartsApart}

-- the machine with all its parts marked
abbrev pub all_marked : MachineData → MachineData
all_marked m = record m { marks = replicate (length m.parts) true }

-- the machine fits the fault's graph h but for its marks: a part that isn't apart is that of a group that stands alike in the good graph g, and
-- no node differs that concerns it; a part that is apart is marked or rests; stale parts are marked, and each marked part is apart
pub record FitsBeside (g h : GraphData) (good : List Tern) (apart : List Bool) (m : MachineData) : Type 0 where
  pub fits : FitsGraph h (all_marked m)
  pub counted : length m.marks ≡ length m.parts
  pub apart_counted : length apart ≡ length m.parts
  pub good_counted : length good ≡ length m.state
  pub shared : (k : ℕ) (part : MachinePart) → Stands m.parts k part → (¬ IsMarked apart k) → (group : Group) →
      IsPartOf h group part → IsAlike g h group
  pub kept : KeepsPartsApart m.parts apart good m.state
  pub waits : (k : ℕ) → IsStale m.parts k → IsMarked m.marks k
  pub only : (k : ℕ) → IsMarked m.marks k → IsMarked apart k
  pub rests : (k : ℕ) (part : MachinePart) → Stands m.parts k part → IsMarked apart k → (¬ IsMarked m.marks k) →
      Rests h m.state (take part.members part.map.items)
