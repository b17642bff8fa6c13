-- Groups that are too large to be analysed.
use Rattle.std.specs.Prelude.{◌≡◌, ℕ, zero, suc, ◌<◌, nat_le, if◌then◌else◌, List, length, Option, Some, None, slice_get}
use Rattle.switch_paths.specs.Graphs.{GraphData}
use Rattle.group_meaning.specs.Groups.{Group, id_of, AreGroups}
use Rattle.group_text.specs.declared.text.TextFault.{TextFault}
use Rattle.group_text.specs.declared.text.TextFault.TheVariants as text
use Rattle.group_text.specs.Texts.{size_fault}
use Rattle.circuit_texts.specs.declared.texts.BuildFault.{BuildFault}
use Rattle.circuit_texts.specs.declared.texts.BuildFault.TheVariants.{GroupNodes, GroupSwitches, NoMemory}

-- why a group has no text
abbrev pub fault_in : Group → Option TextFault
fault_in group = size_fault (length group.members) (length group.switches)

-- the fault of a group's text, told of the group with this least node
abbrev pub at_node : ℕ → TextFault → BuildFault
at_node node (text.GroupNodes count) = GroupNodes node count
at_node node (text.GroupSwitches count) = GroupSwitches node count
at_node node text.NoMemory = NoMemory

-- why a group is refused: one without a text may have as many members as the bound says; with the bound 0 each of them is refused
abbrev pub refused_in : ℕ → Group → Option TextFault
refused_in zero group = fault_in group
refused_in (suc more) group = if nat_le (length group.members) (suc more) then None else fault_in group

-- the fault is that of a group that is refused with this bound
pub record IsRefused (large : ℕ) (group : Group) (fault : BuildFault) : Type 0 where
  pub cause : TextFault
  pub too_large : refused_in large group ≡ Some cause
  pub named : fault ≡ at_node (id_of group) cause

-- the fault is that of a group that is too large
abbrev pub IsTooLarge : Group → BuildFault → Type 0
IsTooLarge group fault = IsRefused 0 group fault

-- the fault is that of the first of these groups that is refused with this bound
pub record IsFirstRefused (large : ℕ) (groups : List Group) (fault : BuildFault) : Type 0 where
  pub k : ℕ
  pub group : Group
  pub stands : slice_get groups k ≡ Some group
  pub cause : TextFault
  pub too_large : refused_in large group ≡ Some cause
  pub named : fault ≡ at_node (id_of group) cause
  pub before : (j : ℕ) (other : Group) → j < k → slice_get groups j ≡ Some other → refused_in large other ≡ None

-- the fault is that of the first of these groups that is too large
abbrev pub IsFirstTooLarge : List Group → BuildFault → Type 0
IsFirstTooLarge groups fault = IsFirstRefused 0 groups fault

-- no group of the graph is refused with this bound
abbrev pub NoneRefused : ℕ → GraphData → Type 0
NoneRefused large g = (groups : List Group) → AreGroups g groups → (k : ℕ) (group : Group) → slice_get groups k ≡ Some group → refused_in large group ≡ None

-- no group of the graph is too large
abbrev pub AllFit : GraphData → Type 0
AllFit g = NoneRefused 0 g

-- the first group of the graph that is refused with this bound is told
pub record TellsRefused (large : ℕ) (g : GraphData) (fault : BuildFault) : Type 0 where
  pub groups : List Group
  pub are : AreGroups g groups
  pub first : IsFirstRefused large groups fault

-- the first group of the graph that is too large is told
abbrev pub TellsTooLarge : GraphData → BuildFault → Type 0
TellsTooLarge g fault = TellsRefused 0 g fault
