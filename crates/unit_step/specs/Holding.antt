-- The groups that a machine is to step by vicinities.
-- After Bryant, "A Switch-Level Model and Simulator for MOS Digital Systems", 1984.
use Rattle.std.specs.Prelude.{ℕ, ◌<◌, ◌≤◌, ◌↔◌, Bool, List, length, All, Contains, Option, None, Some, vec_capacity}
use Rattle.ternary.specs.declared.tern.Tern.{Tern}
use Rattle.switch_paths.specs.Graphs.{GraphData}
use Rattle.vicinity.specs.NodeSets.{IsIn}
use Rattle.vicinity.specs.Wides.{WideData}
use Rattle.wide_groups.specs.Holding.{HoldsMembers}
use Rattle.wide_groups.specs.Staying.{HoldsNode, HoldsUpTo, lowered}
use Rattle.machine_parts.specs.declared.part.MachinePart.{MachinePart}
use Rattle.machine_parts.specs.Parts.{HasMember, IsStale}
use Rattle.machine_laws.specs.Machines.{MachineData}
use Rattle.machine_laws.specs.Finishing.{first_node}
use Rattle.unit_step.specs.declared.holding.Holding.{Holding}

-- what is held, if there is something
abbrev pub wide_in : Option Holding → Option WideData
wide_in None = None
wide_in (Some holding) = Some holding.wide

-- and for how many changes there is room
abbrev pub room_in : Option Holding → ℕ
room_in None = 0
room_in (Some holding) = vec_capacity holding.noted

-- the part's nodes are there, and its members are among them
pub record HasNodes (count : ℕ) (part : MachinePart) : Type 0 where
  pub below : All (λ node. node < count) part.map.items
  pub members : part.members ≤ length part.map.items

-- the node is a member of one of these parts
abbrev pub IsOfThese : List MachinePart → List ℕ → ℕ → Type 0
IsOfThese parts these node = (k : ℕ) × Contains these k × HasMember parts k node

-- the groups of these parts are held, all awake, and there is room for a change of each node
pub record HoldsParts (large : ℕ) (g : GraphData) (parts : List MachinePart) (these : List ℕ) (state : List Tern) (holding : Holding) : Type 0 where
  pub inside : List Bool
  pub members : (node : ℕ) → IsIn inside node ↔ IsOfThese parts these node
  pub holds : HoldsMembers large g state inside holding.wide
  pub enough : length state ≤ vec_capacity holding.noted

-- what is held anew, or else what was held, with this bound besides
abbrev pub wide_after : ℕ → Option WideData → Option Holding → Option WideData
wide_after large old None = lowered large old
wide_after large old (Some holding) = Some holding.wide

-- the group with this least node is passed over: it is one of those that are held already, none of which has more members than the bound says
abbrev pub IsPassed : ℕ → Option WideData → ℕ → Type 0
IsPassed large wide node = HoldsUpTo large wide × HoldsNode wide node

-- the part with this number is stale, and goes on waiting if these get their codes
pub record GoesOn (parts : List MachinePart) (coded : List ℕ) (k : ℕ) : Type 0 where
  pub stale : IsStale parts k
  pub other : ¬ Contains coded k

-- each of them is that of a group that is held already
abbrev pub HoldsAll : List MachinePart → Option WideData → List ℕ → Type 0
HoldsAll parts wide coded = (k : ℕ) → GoesOn parts coded k → HoldsNode wide (first_node parts k)

-- some of them isn't yet, and all are held anew
pub record HoldsAnew (large : ℕ) (g : GraphData) (parts : List MachinePart) (wide : Option WideData) (state : List Tern) (coded : List ℕ) (holding : Holding) : Type 0 where
  pub new : ¬ HoldsAll parts wide coded
  pub these : List ℕ
  pub are : (k : ℕ) → Contains these k ↔ GoesOn parts coded k
  pub holds : HoldsParts large g parts these state holding

-- all are held as before, or anew
abbrev pub HoldsNext : ℕ → GraphData → List MachinePart → Option WideData → List Tern → List ℕ → Option Holding → Type 0
HoldsNext large g parts wide state coded None = HoldsAll parts wide coded
HoldsNext large g parts wide state coded (Some holding) = HoldsAnew large g parts wide state coded holding

-- the same of a machine
abbrev pub HoldsNextIn : ℕ → GraphData → MachineData → List ℕ → Option Holding → Type 0
HoldsNextIn large g m coded holding = HoldsNext large g m.parts m.wide m.state coded holding
