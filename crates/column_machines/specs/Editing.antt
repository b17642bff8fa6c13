-- Edits of the graph under a machine of columns.
-- After Bryant, Beatty, Brace, Cho and Sheffler, "COSMOS: A Compiled Simulator for MOS Circuits", 1987.
use Rattle.std.specs.Prelude.{◌≡◌, ℕ, ◌<◌, Bool, List, length, All, IsTrue}
use Rattle.switch_paths.specs.Graphs.{GraphData, nodes}
use Rattle.group_text.specs.Texts.{GroupTextData}
use Rattle.group_text.specs.FirstTexts.{is_among}
use Rattle.channel_groups.specs.declared.change.Change.{Change}
use Rattle.circuit_texts.specs.Sizes.{AllFit}
use Rattle.part_lists.specs.Growing.{AddsMarked}
use Rattle.machine_laws.specs.Machines.{MachineData}
use Rattle.machine_laws.specs.Editing.{Edits, with_new_nodes}
use Rattle.column_machines.specs.Columns.{WordData, column_states, column_of, CoversInWords}
use Rattle.column_machines.specs.declared.edits.Followed.{Followed}
use Rattle.column_machines.specs.Evaluating.{rooms, IsEven}
use Rattle.column_machines.specs.Running.{AreColumns, IsRunnable}

-- in each column new nodes of the graph are X, and all other nodes stay
pub record GrowsWords (g : GraphData) (columns : ℕ) (hi lo new_hi new_lo : List ℕ) : Type 0 where
  pub columns_are : AreColumns columns new_hi new_lo
  pub each : (column : ℕ) → column < columns → column_states column new_hi new_lo ≡ with_new_nodes (column_states column hi lo) (nodes g)

-- the graph was edited: the machine of columns covers it, new nodes are X in each column, and the plain machine followed
pub record EditsWords (g : GraphData) (change : Change) (old new : WordData) : Type 0 where
  pub covers : CoversInWords g new
  pub machine : Edits g change old.machine new.machine
  pub columns : new.columns ≡ old.columns
  pub each : (column : ℕ) → column < old.columns → column_of new column ≡ with_new_nodes (column_of old column) (nodes g)

-- all of these texts are kept
abbrev pub AreKeptIn : List GroupTextData → List GroupTextData → Type 0
AreKeptIn texts kept = All (λ text. IsTrue (is_among kept text)) texts

-- all but the room for new nodes stays
pub record KeepsButRoom (old new : WordData) : Type 0 where
  pub columns : new.columns ≡ old.columns
  pub machine : new.machine ≡ record old.machine { spare = new.machine.spare }
  pub marks : new.marks ≡ old.marks
  pub highs : new.hi ≡ old.hi
  pub lows : new.lo ≡ old.lo

-- the columns and their words stay, and their marks
pub record KeepsWords (old new : WordData) : Type 0 where
  pub columns : new.columns ≡ old.columns
  pub marks : new.marks ≡ old.marks
  pub highs : new.hi ≡ old.hi
  pub lows : new.lo ≡ old.lo

-- the machine followed the edit, no group is too large for a text, the parts are marked that came behind the others, and there is room for the steps
-- of all parts
pub record Follows (g : GraphData) (change : Change) (old : MachineData) (marks : List Bool) (made : Followed) : Type 0 where
  pub edits : Edits g change old made.machine
  pub fit : AllFit g
  pub adds : AddsMarked (length made.machine.parts) marks made.agenda
  pub runs : IsRunnable made.machine.parts made.agenda (rooms made.workspace)
  pub rails : IsEven made.workspace
