-- What an act does to the columns and to what moves them.
use Rattle.std.specs.Prelude.{◌≡◌, ℕ, ◌<◌, List, IfSome, slice_index_or, slice_set}
use Rattle.switch_paths.specs.Graphs.{GraphData, nodes}
use Rattle.switch_paths.specs.Step.{IsStep}
use Rattle.channel_groups.specs.declared.change.Change.{Change}
use Rattle.settling.specs.declared.settling.Settled.{Settled}
use Rattle.settling.specs.Settling.{Settles}
use Rattle.ternary.specs.declared.tern.Tern.{Tern}
use Rattle.column_stage.specs.Acts.{Act, Reserved, Placed, Edited, Built, Stepped, Rested}
use Rattle.column_stage.specs.Columns.{letter_in, with_new_nodes}
use Rattle.column_machine_stage.specs.Stages.{StageData, SameStates, EditsFrom, FitsIn, IsInTurnIn, KeepsFit, MovesTogether, states_in}

-- in each column a node has the column's letter, and a machine that fits the graph fits it still
pub record PlacesLetters (g : GraphData) (node : ℕ) (letters : List Tern) (old new : StageData) : Type 0 where
  pub columns : new.columns ≡ old.columns
  pub each : (column : ℕ) → column < old.columns → states_in new column ≡ slice_set (states_in old column) node (letter_in column letters)
  pub machine : KeepsFit g old.machine new.machine

-- each node that is new is X in each column, and what machine there is followed the edit
pub record GrowsColumns (g : GraphData) (change : Change) (old new : StageData) : Type 0 where
  pub columns : new.columns ≡ old.columns
  pub each : (column : ℕ) → column < old.columns → states_in new column ≡ with_new_nodes (states_in old column) (nodes g)
  pub machine : IfSome new.machine (EditsFrom g change old.machine)

-- there is a machine that fits the graph, if its columns take turns with groups of up to so many members, and the columns have their states still
pub record BuildsColumns (large : ℕ) (g : GraphData) (old new : StageData) : Type 0 where
  pub same : SameStates old new
  pub fits : FitsIn g new.machine
  pub turns : IsInTurnIn new.machine → new.large ≡ large

-- each column settled, with its count among these
abbrev pub SettlesIn : GraphData → ℕ → List Settled → ℕ → List Tern → List Tern → Type 0
SettlesIn g limit counts column old new =
    (past : Settled) → Settles g old limit new (slice_index_or counts column past).steps (slice_index_or counts column past).joined

-- what an act does to a stage of columns: where room is taken the machine may be let go; a node is placed in each column; new nodes are X in each
-- column, and the machine follows the edit, or is let go; it is built or finished; each column takes a step, or settles
abbrev pub DidAct : Act → StageData → StageData → Type 0
DidAct Reserved old new = SameStates old new
DidAct (Placed g node letters) old new = PlacesLetters g node letters old new
DidAct (Edited g change) old new = GrowsColumns g change old new
DidAct (Built large g) old new = BuildsColumns large g old new
DidAct (Stepped g) old new = MovesTogether g (λ column before after. IsStep g before after) old new
DidAct (Rested g limit counts) old new = MovesTogether g (SettlesIn g limit counts) old new
