-- Laws of a machine's steps, each proved as the contract of a function in `src/laws.rt`.
-- After Bryant, Beatty, Brace, Cho and Sheffler, "COSMOS: A Compiled Simulator for MOS Circuits", 1987.
use Rattle.std.specs.Prelude.{ℕ, ◌≤◌, Bool, true, false, List, [], ◌∷◌, ◌++◌, Option, None}
use Rattle.ternary.specs.declared.tern.Tern.{Tern}
use Rattle.switch_paths.specs.declared.TheConstants.{RAILS}
use Rattle.switch_paths.specs.Graphs.{GraphData, IsWired}
use Rattle.switch_paths.specs.Step.{IsStep}
use Rattle.settling.specs.Settling.{IsJoinStep}
use Rattle.group_meaning.specs.Groups.{Group}
use Rattle.group_rest.specs.Alike.{IsAlike}
use Rattle.channel_groups.specs.declared.change.Change.{Change}
use Rattle.channel_groups.specs.Changes.{undo}
use Rattle.group_text.specs.Texts.{GroupTextData}
use Rattle.circuit_texts.specs.Building.{Builds}
use Rattle.machine_parts.specs.declared.part.MachinePart.{MachinePart}
use Rattle.machine_laws.specs.Machines.{MachineData, Advances, Places}
use Rattle.machine_laws.specs.Fitting.{IsPartOf, Covers, FitsGraph, LeadsToFitting, IsKeptBy}
use Rattle.machine_laws.specs.Editing.{Edits}

-- a step of a machine that fits a graph is the graph's unit step, and the machine fits the graph afterwards
abbrev pub StepsAreUnitSteps : Type 0
StepsAreUnitSteps = LeadsToFitting (Advances false) IsStep

-- and a joining step is the graph's joining step
abbrev pub JoiningStepsAreJoinSteps : Type 0
JoiningStepsAreJoinSteps = LeadsToFitting (Advances true) IsJoinStep

-- a machine covers a graph after a node was placed if it did before
abbrev pub PlacingKeepsCover : Type 0
PlacingKeepsCover =
    (g : GraphData) (node : ℕ) (value : Tern) (old new : MachineData) → IsWired g → Covers g old → Places node value old new → Covers g new

-- and fits it, if the node is no rail
abbrev pub PlacingKeepsFit : Type 0
PlacingKeepsFit =
    (g : GraphData) (node : ℕ) (value : Tern) (old new : MachineData) → IsWired g → RAILS ≤ node → FitsGraph g old → Places node value old new →
    FitsGraph g new

-- the part of a group that two graphs share, with the same switches and the same levels of its members, is its part in both
abbrev pub AlikeGroupsKeepTheirParts : Type 0
AlikeGroupsKeepTheirParts =
    (g h : GraphData) (group : Group) (part : MachinePart) → IsWired g → IsWired h → IsAlike g h group → IsPartOf g group part →
    IsPartOf h group part

-- the graph with an empty place more at the end
abbrev pub with_empty_place : GraphData → GraphData
with_empty_place g = record g { places = g.places ++ None ∷ [] }

-- a machine that covers a graph covers it with an empty place more too
abbrev pub EmptyPlacesAreCovered : Type 0
EmptyPlacesAreCovered = (g : GraphData) (m : MachineData) → IsWired g → Covers g m → Covers (with_empty_place g) m

-- and the texts whose codes its parts have are the same
abbrev pub EmptyPlacesKeepTexts : Type 0
EmptyPlacesKeepTexts =
    (g : GraphData) (kept : List GroupTextData) (m : MachineData) → IsWired g → Covers g m → IsKeptBy g kept m → IsKeptBy (with_empty_place g) kept m

-- if a machine fits a graph whose build was done, all texts of its parts are kept
abbrev pub BuiltTextsAreKept : Type 0
BuiltTextsAreKept =
    (large : ℕ) (g : GraphData) (bound : Option ℕ) (old new before after : List GroupTextData) (count : ℕ) (m : MachineData) → FitsGraph g m →
    Builds large g bound old new before after count → IsKeptBy g new m

-- and they are after more texts were kept
abbrev pub MoreTextsAreKept : Type 0
MoreTextsAreKept = (g : GraphData) (kept more : List GroupTextData) (m : MachineData) → IsKeptBy g kept m → IsKeptBy g (kept ++ more) m

-- they are after a step, and after a node was placed
abbrev pub StepsKeepTexts : Type 0
StepsKeepTexts =
    (g : GraphData) (kept : List GroupTextData) (joining : Bool) (old new : MachineData) → Advances joining old new → IsKeptBy g kept old →
    IsKeptBy g kept new

abbrev pub PlacingKeepsTexts : Type 0
PlacingKeepsTexts =
    (g : GraphData) (kept : List GroupTextData) (node : ℕ) (value : Tern) (old new : MachineData) → Places node value old new →
    IsKeptBy g kept old → IsKeptBy g kept new

-- one machine that fits a graph has the texts of another one
abbrev pub FittingMachinesShareTexts : Type 0
FittingMachinesShareTexts =
    (g : GraphData) (kept : List GroupTextData) (one two : MachineData) → FitsGraph g one → FitsGraph g two → IsKeptBy g kept one →
    IsKeptBy g kept two

-- and after an edit the parts that still have code are those of groups that the edit left as they were, with their texts
abbrev pub EditsKeepTexts : Type 0
EditsKeepTexts =
    (g : GraphData) (change : Change) (kept : List GroupTextData) (old new : MachineData) → IsWired (undo g change) → IsWired g →
    Covers (undo g change) old → Edits g change old new → IsKeptBy (undo g change) kept old → IsKeptBy g kept new
