-- A step in one column of a machine of columns: one set of parts and marks serves all columns, so parts may be marked that no node of this
-- column's state asks for.
-- After Bryant, Beatty, Brace, Cho and Sheffler, "COSMOS: A Compiled Simulator for MOS Circuits", 1987.
use Rattle.std.specs.Prelude.{◌≡◌, ℕ, ◌<◌, ◌≤◌, None, Bool, true, false, List, length, All, slice_index_or}
use Rattle.ternary.specs.declared.tern.Tern.{Tern}
use Rattle.switch_paths.specs.Graphs.{GraphData, IsWired, nodes}
use Rattle.switch_paths.specs.Rails.{IsSound}
use Rattle.switch_paths.specs.Step.{IsStep}
use Rattle.settling.specs.Settling.{IsJoinStep}
use Rattle.channel_groups.specs.declared.change.Change.{Change}
use Rattle.channel_groups.specs.Changes.{undo}
use Rattle.circuit_texts.specs.Sizes.{AllFit}
use Rattle.machine_parts.specs.declared.part.MachinePart.{MachinePart}
use Rattle.machine_parts.specs.Parts.{IsStale}
use Rattle.machine_laws.specs.Machines.{MachineData, Steps}
use Rattle.machine_parts.specs.Marking.{IsMarked}
use Rattle.machine_parts.specs.Stepping.{ReadsChange, StaysMarked}
use Rattle.machine_parts.specs.Evaluating.{Rooms, IsSeated}
use Rattle.machine_laws.specs.Fitting.{Covers, FitsGraph, LeadsToFitting}
use Rattle.machine_laws.specs.Editing.{Edits, Finishes, with_new_nodes}

-- the parts whose marks stay are marked, and those that read a node that changed; others may be marked too
pub record KeepsMarks (joining : Bool) (parts : List MachinePart) (old_marks : List Bool) (old new : List Tern) (marks : List Bool) : Type 0 where
  pub count : length marks ≡ length old_marks
  pub stays : (k : ℕ) → StaysMarked joining parts old_marks k → IsMarked marks k
  pub reads : (k : ℕ) → ReadsChange parts old new k → IsMarked marks k

-- a step, plain or joining, after which more parts may be marked than the step needs
pub record AdvancesInColumn (joining : Bool) (old new : MachineData) : Type 0 where
  pub step : Steps joining old new
  pub open step use *
  pub marks : KeepsMarks joining old.parts old.marks old.state new.state new.marks

-- such a step of a machine that fits a graph is the graph's unit step, and the machine fits the graph afterwards
abbrev pub ColumnsStepApart : Type 0
ColumnsStepApart = LeadsToFitting (AdvancesInColumn false) IsStep

-- and a joining one is the graph's joining step
abbrev pub ColumnsJoinApart : Type 0
ColumnsJoinApart = LeadsToFitting (AdvancesInColumn true) IsJoinStep

-- a machine that fits a graph fits it with any sound state, if all its parts are marked and none is stepped by vicinities
abbrev pub MarkedMachinesFit : Type 0
MarkedMachinesFit =
    (g : GraphData) (m : MachineData) (marks : List Bool) (state : List Tern) → FitsGraph g m → m.wide ≡ None →
    ((k : ℕ) → k < length m.parts → IsMarked marks k) → length state ≡ nodes g → IsSound state →
    FitsGraph g (record m { marks = marks; state = state })

-- the parts' nodes are among so many, no two places of a map have one node, and each code fits its part
abbrev pub AreSeated : ℕ → List MachinePart → Type 0
AreSeated count parts = (room : Rooms) × All (IsSeated count room) parts

-- a column of a machine: its parts, with the marks of all columns, and the states of this one
abbrev pub in_column : MachineData → List Bool → List Tern → MachineData
in_column m marks state = record m { marks = marks; state = state }

-- no stale part has a text yet
abbrev pub HasNoTexts : MachineData → Type 0
HasNoTexts m = (k : ℕ) → IsStale m.parts k → slice_index_or m.uses k None ≡ None

-- the marks of all columns go on through an edit: those that were set stay, and the parts are marked that came behind the others
pub record KeepsMarking (old new : MachineData) (marks new_marks : List Bool) : Type 0 where
  pub stays : (k : ℕ) → IsMarked marks k → IsMarked new_marks k
  pub later : (k : ℕ) → length old.parts ≤ k → k < length new.parts → IsMarked new_marks k

-- a column covers the graph after an edit, if it covered it before, and no group is stepped by vicinities
abbrev pub EditsKeepColumns : Type 0
EditsKeepColumns =
    (g : GraphData) (change : Change) (old new : MachineData) (marks new_marks : List Bool) (state : List Tern) → IsWired (undo g change) → IsWired g →
    Covers (undo g change) old → Covers (undo g change) (in_column old marks state) → Edits g change old new → new.wide ≡ None →
    KeepsMarking old new marks new_marks → Covers g (in_column new new_marks (with_new_nodes state (nodes g)))

-- and no stale part has a text, if none had one
abbrev pub EditsAddNoTexts : Type 0
EditsAddNoTexts = (g : GraphData) (change : Change) (old new : MachineData) → Edits g change old new → HasNoTexts old → HasNoTexts new

-- a column fits the graph once the stale parts have their codes, if it covered it before
abbrev pub FinishesKeepColumns : Type 0
FinishesKeepColumns =
    (g : GraphData) (old new : MachineData) (marks : List Bool) (state : List Tern) → Finishes g old new → new.wide ≡ None →
    Covers g (in_column old marks state) → IsSound state → FitsGraph g (in_column new marks state)

-- if none of its groups is stepped by vicinities, none is too large for a text, and no part is stale
abbrev pub FittingMachinesFitAll : Type 0
FittingMachinesFitAll = (g : GraphData) (m : MachineData) → FitsGraph g m → m.wide ≡ None → AllFit g × ((k : ℕ) → ¬ IsStale m.parts k)
