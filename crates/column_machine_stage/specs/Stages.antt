-- The states of all columns in words, and the machine that moves them, if there is one.
-- After Bryant, Beatty, Brace, Cho and Sheffler, "COSMOS: A Compiled Simulator for MOS Circuits", 1987; the columns are the bits of words, an
-- old device of parallel simulation.
use Rattle.std.specs.Prelude.{◌≡◌, ⊤, ℕ, ◌<◌, ◌≤◌, List, [], Option, None, Some, IfSome, IfNone}
use Rattle.ternary.specs.declared.tern.Tern.{Tern}
use Rattle.ternary.specs.Tern.{may_one, may_zero}
use Rattle.switch_paths.specs.Graphs.{GraphData, nodes}
use Rattle.switch_paths.specs.Switching.{state_at}
use Rattle.group_text.specs.Texts.{GroupTextData}
use Rattle.word_columns.specs.Columns.{is_in_column}
use Rattle.column_machines.specs.Columns.{column_states}
use Rattle.column_machines.specs.declared.column_machine.ColumnMachine.{ColumnMachine}
use Rattle.channel_groups.specs.declared.change.Change.{Change}
use Rattle.column_machines.specs.declared.column_machine.ColumnMachine.TheVariants.{Together, InTurn}
use Rattle.column_machines.specs.Making.{spare_of}
use Rattle.column_machines.specs.Moving.{columns_of, highs_of, lows_of, last_in, spare_in, CoversInColumns, EditsColumns, FitsInColumns, IsInTurn, IsKeptByColumns, IsOfKind, IsTogether, KeepsColumnsButRoom}
use Rattle.column_machines.specs.Running.{AreColumns}
use Rattle.column_stage.specs.Columns.{with_new_nodes}
use Rattle.column_stage.specs.Standing.{StandFirst}
use Rattle.column_machine_stage.specs.declared.words.Words.{Words}
use Rattle.column_machine_stage.specs.declared.stage.Held.{Held}
use Rattle.column_machine_stage.specs.declared.stage.Held.TheVariants.{Still, Built}

-- ---- words

-- in this column the words are the rails of the state
pub record HasValue (column : ℕ) (state : Tern) (words : Words) : Type 0 where
  pub one : is_in_column column words.hi ≡ may_one state
  pub zero : is_in_column column words.lo ≡ may_zero state

-- the first columns, so many, have these states in the words
abbrev pub HasValuesBelow : ℕ → List Tern → Words → Type 0
HasValuesBelow count states words = (column : ℕ) → column < count → HasValue column (state_at states column) words

-- ---- the states and the machine

-- how many columns there are, both rails of each node's states, bit i for column i, the machine, if there is one, how many members its groups
-- may have, and for how many nodes more there is room
pub record StageData : Type 0 where
  pub columns : ℕ
  pub hi : List ℕ
  pub lo : List ℕ
  pub machine : Option ColumnMachine
  pub large : ℕ
  pub spare : ℕ

-- how many columns there are
abbrev pub columns_on : StageData → ℕ
columns_on stage = stage.columns

-- the states of a column
abbrev pub states_in : StageData → ℕ → List Tern
states_in stage column = column_states column stage.hi stage.lo

-- the rails that stand alone, or are the machine's
abbrev pub hi_held : Held → List ℕ
hi_held (Still rails) = rails.hi.items
hi_held (Built machine) = highs_of machine

abbrev pub lo_held : Held → List ℕ
lo_held (Still rails) = rails.lo.items
lo_held (Built machine) = lows_of machine

-- the machine, if there is one
abbrev pub machine_held : Held → Option ColumnMachine
machine_held (Still rails) = None
machine_held (Built machine) = Some machine

-- for how many nodes more there is room
abbrev pub spare_held : Held → ℕ
spare_held (Still rails) = spare_of rails.hi rails.lo
spare_held (Built machine) = spare_in machine

-- the texts of the last build that count as standing in front of what is kept
abbrev pub last_held : Option ColumnMachine → List GroupTextData
last_held None = []
last_held (Some machine) = last_in machine

-- there are 1 to 64 columns; where the rails stand alone, each node has one in each column
pub record IsStage (stage : StageData) : Type 0 where
  pub some : 1 ≤ stage.columns
  pub few : stage.columns ≤ 64
  pub columns_are : IfNone stage.machine (AreColumns stage.columns stage.hi stage.lo)
  pub same : IfSome stage.machine (λ machine. columns_of machine ≡ stage.columns)

-- a machine that covers or fits the graph does so still, and it knows the same texts and is of the same kind
pub record KeepsServing (g : GraphData) (old new : ColumnMachine) : Type 0 where
  pub covers : CoversInColumns g old → CoversInColumns g new
  pub fits : FitsInColumns g old → FitsInColumns g new
  pub known : (kept : List GroupTextData) → IsKeptByColumns g kept old → IsKeptByColumns g kept new
  pub last : last_in new ≡ last_in old
  pub kind : IsOfKind old new

-- the columns have the same states, and are as many
pub record SameStates (old new : StageData) : Type 0 where
  pub columns : new.columns ≡ old.columns
  pub each : (column : ℕ) → column < old.columns → states_in new column ≡ states_in old column

-- ---- what it serves

-- for columns that take turns the texts of the graph's groups are kept in front of all others
abbrev pub StandFirstIn : ℕ → GraphData → List GroupTextData → ColumnMachine → Type 0
StandFirstIn large g kept (Together machine) = ⊤
StandFirstIn large g kept (InTurn machine) = StandFirst large g kept

-- the machine serves these: in each column it covers the graph, and the texts of its parts are kept, or all of the graph's in front of the others
pub record Serves (large : ℕ) (g : GraphData) (kept : List GroupTextData) (machine : ColumnMachine) : Type 0 where
  pub covers : CoversInColumns g machine
  pub known : IsKeptByColumns g kept machine
  pub first : StandFirstIn large g kept machine

-- what machine there is serves the graph
abbrev pub ServesIn : StageData → GraphData → List GroupTextData → Type 0
ServesIn stage g kept = IfSome stage.machine (Serves stage.large g kept)

-- there is a machine for columns that step together
abbrev pub IsTogetherIn : Option ColumnMachine → Type 0
IsTogetherIn None = ⊥
IsTogetherIn (Some machine) = IsTogether machine

-- if there is a machine, it is for columns that take turns
abbrev pub IsInTurnIn : Option ColumnMachine → Type 0
IsInTurnIn None = ⊤
IsInTurnIn (Some machine) = IsInTurn machine

-- the machine, if there is one, has other room at most, and where there is none there is none
abbrev pub KeepsRoomIn : Option ColumnMachine → Option ColumnMachine → Type 0
KeepsRoomIn None new = new ≡ None
KeepsRoomIn (Some machine) new = (next : ColumnMachine) × (new ≡ Some next) × KeepsColumnsButRoom machine next

-- the machine, if there is one, is the one from before, with other room
abbrev pub ReservesFrom : Option ColumnMachine → ColumnMachine → Type 0
ReservesFrom old machine = (before : ColumnMachine) × (old ≡ Some before) × KeepsColumnsButRoom before machine

-- the machine is the one from before, after an edit of the graph
abbrev pub EditsFrom : GraphData → Change → Option ColumnMachine → ColumnMachine → Type 0
EditsFrom g change old machine = (before : ColumnMachine) × (old ≡ Some before) × EditsColumns g change before machine

-- in each column new nodes of the graph are X, and all other nodes stay; rails that stand alone are those of columns, and a machine has as many
pub record GrowsHeld (g : GraphData) (columns : ℕ) (hi lo : List ℕ) (held : Held) : Type 0 where
  pub each : (column : ℕ) → column < columns →
      column_states column (hi_held held) (lo_held held) ≡ with_new_nodes (column_states column hi lo) (nodes g)
  pub columns_are : IfNone (machine_held held) (AreColumns columns (hi_held held) (lo_held held))
  pub same : IfSome (machine_held held) (λ machine. columns_of machine ≡ columns)

-- there was a machine and there is one, of the same kind
abbrev pub IsOfKindIn : Option ColumnMachine → Option ColumnMachine → Type 0
IsOfKindIn None new = ⊥
IsOfKindIn (Some machine) new = IfSome new (IsOfKind machine)

-- there is a machine, which in each column fits the graph
pub record FitsIn (g : GraphData) (found : Option ColumnMachine) : Type 0 where
  pub machine : ColumnMachine
  pub there : found ≡ Some machine
  pub fits : FitsInColumns g machine

-- ---- moves

-- in each column this leads from the states to the next, and the machine fits the graph still
pub record MovesTogether (g : GraphData) (Leads : ℕ → List Tern → List Tern → Type 0) (old new : StageData) : Type 0 where
  pub columns : new.columns ≡ old.columns
  pub each : (column : ℕ) → column < old.columns → Leads column (states_in old column) (states_in new column)
  pub fits : FitsIn g new.machine
  pub kind : IsOfKindIn old.machine new.machine

-- a machine that covers or fits the graph does so still, and knows the same texts; and where there is none there is none
abbrev pub KeepsFit : GraphData → Option ColumnMachine → Option ColumnMachine → Type 0
KeepsFit g None new = new ≡ None
KeepsFit g (Some machine) new = (next : ColumnMachine) × (new ≡ Some next) × KeepsServing g machine next
