-- What is built before a command: the texts of the circuit's groups that aren't kept are analysed, and all of them are used.
-- After Beatty and Bryant, "Fast Incremental Circuit Analysis Using Extracted Hierarchy", 1988.
use Rattle.std.specs.Prelude.{◌≡◌, ◌<◌, Bool, true, false, List, [], length, Option, Some}
use Rattle.ternary.specs.Counts.{raised}
use Rattle.group_text.specs.Texts.{GroupTextData}
use Rattle.group_text.specs.FirstTexts.{new_texts}
use Rattle.group_analysis.specs.Using.{kept_after}
use Rattle.circuit_texts.specs.Building.{HasTexts}
use Rattle.script_lang.specs.declared.command.Command.{Command}
use Rattle.script_lang.specs.declared.command.Command.TheVariants as family
use Rattle.circuit_texts.specs.declared.texts.BuildFault.{BuildFault}
use Rattle.circuit_texts.specs.declared.texts.BuildFault.TheVariants as build
use Rattle.switch_paths.specs.Graphs.{GraphData, nodes}
use Rattle.netlist.specs.declared.fault.EditFault.{EditFault}
use Rattle.netlist.specs.declared.fault.EditFault.TheVariants as edit
use Rattle.node_words.specs.declared.fault.VectorFault.{VectorFault}
use Rattle.node_words.specs.declared.fault.VectorFault.TheVariants as vector
use Rattle.session_meaning.specs.declared.fault.Refusal.{Refusal}
use Rattle.session_meaning.specs.declared.fault.Refusal.TheVariants as refusal
use Rattle.session_meaning.specs.declared.fault.ApplyFault.{ApplyFault}
use Rattle.session_meaning.specs.declared.fault.ApplyFault.TheVariants.{Refused, GroupNodes, GroupSwitches, WriteFault, NoMemory}
use Rattle.session_meaning.specs.Sessions.{SessionData}

-- the command builds the present circuit before it has its effect
abbrev pub builds : Command → Bool
builds (family.Run run) = true
builds other = false

-- the command edits the circuit
abbrev pub edits : Command → Bool
edits (family.Edit edit) = true
edits other = false

-- the data after a build with these present texts: they are in front of what is kept, what is past the bound is cut, and the new ones are
-- counted
abbrev pub with_present : SessionData → List GroupTextData → SessionData
with_present old present =
    record old { kept = kept_after old.bound present old.kept; fresh = raised old.fresh (length (new_texts old.kept present)) }

-- the present circuit was built: what isn't kept of its groups' texts was analysed, and all of them were used
pub record IsBuild (old mid : SessionData) (texts : List GroupTextData) : Type 0 where
  pub present : List GroupTextData
  pub has : HasTexts old.large old.circuit.graph present
  pub news : texts ≡ new_texts old.kept present
  pub used : mid ≡ with_present old present

-- the present circuit was built, or not: then nothing was analysed
abbrev pub BuildsIf : Bool → SessionData → SessionData → List GroupTextData → Type 0
BuildsIf true old mid texts = IsBuild old mid texts
BuildsIf false old mid texts = (mid ≡ old) × (texts ≡ [])

-- what stands before the command's effect: the data then, and the texts that were analysed
abbrev pub Prepares : SessionData → Command → SessionData → List GroupTextData → Type 0
Prepares old command mid texts = BuildsIf (builds command) old mid texts

-- the fault is the refusal that there is, or lack of memory
abbrev pub IsFaultFor : Option Refusal → ApplyFault → Type 0
IsFaultFor found (Refused refusal) = found ≡ Some refusal
IsFaultFor found (GroupNodes node count) = ⊥
IsFaultFor found (GroupSwitches node count) = ⊥
IsFaultFor found WriteFault = ⊥
IsFaultFor found NoMemory = Unit {0}

-- what ends a command for which the circuit can't be built
abbrev pub fault_of_build : BuildFault → ApplyFault
fault_of_build (build.GroupNodes node count) = GroupNodes node count
fault_of_build (build.GroupSwitches node count) = GroupSwitches node count
fault_of_build build.NoMemory = NoMemory

-- what ends a command whose edit isn't done; an edit of transistors never finds that both names are in use
abbrev pub fault_of_edit : EditFault → ApplyFault
fault_of_edit edit.NoSuchSwitch = Refused refusal.NoSuchSwitch
fault_of_edit edit.Rail = Refused refusal.Rail
fault_of_edit edit.BadStrength = Refused refusal.BadStrength
fault_of_edit edit.BadSize = Refused refusal.BadSize
fault_of_edit edit.AliasTaken = NoMemory
fault_of_edit edit.TooManyNodes = Refused refusal.TooManyNodes
fault_of_edit edit.TooManySwitches = Refused refusal.TooManySwitches
fault_of_edit edit.NoMemory = NoMemory

-- what ends a command whose name isn't given to the nodes of its words
abbrev pub fault_of_vector : VectorFault → ApplyFault
fault_of_vector vector.NameTaken = Refused refusal.NameTaken
fault_of_vector vector.UnknownNode = Refused refusal.UnknownNode
fault_of_vector vector.TooMany = Refused refusal.TooMany
fault_of_vector vector.NoMemory = NoMemory

-- the node that a fault names, where it names one, is one of the graph's
abbrev pub NamesNode : GraphData → ApplyFault → Type 0
NamesNode g (Refused refusal) = Unit {0}
NamesNode g (GroupNodes node count) = node < nodes g
NamesNode g (GroupSwitches node count) = node < nodes g
NamesNode g WriteFault = Unit {0}
NamesNode g NoMemory = Unit {0}
