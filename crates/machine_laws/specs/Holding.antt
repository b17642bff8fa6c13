-- A machine whose stale parts are held: their groups are stepped by vicinities.
-- After Bryant, "A Switch-Level Model and Simulator for MOS Digital Systems", 1984.
use Rattle.std.specs.Prelude.{◌≡◌, ℕ, ◌↔◌, Bool, List, length}
use Rattle.ternary.specs.declared.tern.Tern.{Tern}
use Rattle.switch_paths.specs.Graphs.{GraphData}
use Rattle.group_meaning.specs.Groups.{Group, AreGroups}
use Rattle.group_text.specs.FirstTexts.{first_texts}
use Rattle.circuit_texts.specs.Told.{told}
use Rattle.machine_parts.specs.declared.part.MachinePart.{MachinePart}
use Rattle.machine_parts.specs.Parts.{HasMember, IsStale}
use Rattle.vicinity.specs.NodeSets.{IsIn}
use Rattle.vicinity.specs.Wides.{WideData}
use Rattle.wide_groups.specs.Holding.{HoldsMembers}
use Rattle.machine_laws.specs.Machines.{MachineData}
use Rattle.machine_laws.specs.Fitting.{Covers, AreTold}

-- the node is a member of a stale part
pub record IsOfStale (parts : List MachinePart) (node : ℕ) : Type 0 where
  pub k : ℕ
  pub has : HasMember parts k node
  pub stale : IsStale parts k

-- the groups of the stale parts are held, all awake
pub record HoldsStale (large : ℕ) (g : GraphData) (parts : List MachinePart) (state : List Tern) (wide : WideData) : Type 0 where
  pub inside : List Bool
  pub members : (node : ℕ) → IsIn inside node ↔ IsOfStale parts node
  pub holds : HoldsMembers large g state inside wide

-- the machine covers the graph, counts the distinct texts of the groups that have one, and has each of these texts
pub record IsReady (g : GraphData) (m : MachineData) : Type 0 where
  pub covers : Covers g m
  pub texts : (groups : List Group) → AreGroups g groups → m.texts ≡ length (first_texts (told g groups))
  pub told : AreTold g m
