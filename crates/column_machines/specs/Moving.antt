-- What moves columns: the columns of a machine that steps them together, or of one that takes them in turn.
use Rattle.std.specs.Prelude.{◌≡◌, ⊤, ℕ, List, []}
use Rattle.ternary.specs.declared.tern.Tern.{Tern}
use Rattle.switch_paths.specs.Graphs.{GraphData}
use Rattle.column_machines.specs.declared.column_machine.ColumnMachine.{ColumnMachine}
use Rattle.column_machines.specs.declared.column_machine.ColumnMachine.TheVariants.{Together, InTurn}
use Rattle.group_text.specs.Texts.{GroupTextData}
use Rattle.channel_groups.specs.declared.change.Change.{Change}
use Rattle.machine_laws.specs.Fitting.{IsKeptBy}
use Rattle.column_machines.specs.Columns.{WordData, column_states, CoversInWords, FitsInWords}
use Rattle.column_machines.specs.Editing.{EditsWords, KeepsButRoom}
use Rattle.column_machines.specs.Turns.{FitsInTurn}

-- how many columns there are
abbrev pub columns_of : ColumnMachine → ℕ
columns_of (Together machine) = machine.columns
columns_of (InTurn machine) = machine.columns

-- the rails of each node's states, bit i for column i
abbrev pub highs_of : ColumnMachine → List ℕ
highs_of (Together machine) = machine.hi
highs_of (InTurn machine) = machine.hi

abbrev pub lows_of : ColumnMachine → List ℕ
lows_of (Together machine) = machine.lo
lows_of (InTurn machine) = machine.lo

-- the states of a column
abbrev pub column_in : ColumnMachine → ℕ → List Tern
column_in machine column = column_states column (highs_of machine) (lows_of machine)

-- in each column it fits the graph
abbrev pub FitsInColumns : GraphData → ColumnMachine → Type 0
FitsInColumns g (Together machine) = FitsInWords g machine
FitsInColumns g (InTurn machine) = FitsInTurn g machine

-- in each column it covers the graph; columns that take turns fit it then
abbrev pub CoversInColumns : GraphData → ColumnMachine → Type 0
CoversInColumns g (Together machine) = CoversInWords g machine
CoversInColumns g (InTurn machine) = FitsInTurn g machine

-- columns that step together cover the graph, so they can follow an edit of it; those that take turns follow none
abbrev pub CanFollow : GraphData → ColumnMachine → Type 0
CanFollow g (Together machine) = CoversInWords g machine
CanFollow g (InTurn machine) = ⊤

-- the columns step together
abbrev pub IsTogether : ColumnMachine → Type 0
IsTogether (Together machine) = ⊤
IsTogether (InTurn machine) = ⊥

-- the columns take turns
abbrev pub IsInTurn : ColumnMachine → Type 0
IsInTurn (Together machine) = ⊥
IsInTurn (InTurn machine) = ⊤

-- for how many nodes more there is room: columns that take turns follow no edit
abbrev pub spare_in : ColumnMachine → ℕ
spare_in (Together machine) = machine.spare
spare_in (InTurn machine) = 0

-- the texts of the last build that count as standing in front of what is kept: after a build for columns that take turns they stand there
abbrev pub last_in : ColumnMachine → List GroupTextData
last_in (Together machine) = machine.machine.last
last_in (InTurn machine) = []

-- the texts of the parts of columns that step together are among these
abbrev pub IsKeptByColumns : GraphData → List GroupTextData → ColumnMachine → Type 0
IsKeptByColumns g kept (Together machine) = IsKeptBy g kept machine.machine
IsKeptByColumns g kept (InTurn machine) = ⊤

-- all but the room for new nodes stays
abbrev pub KeepsColumnsButRoom : ColumnMachine → ColumnMachine → Type 0
KeepsColumnsButRoom (Together machine) new = (next : WordData) × (new ≡ Together next) × KeepsButRoom machine next
KeepsColumnsButRoom (InTurn machine) new = new ≡ InTurn machine

-- columns that step together followed an edit of the graph
abbrev pub EditsColumns : GraphData → Change → ColumnMachine → ColumnMachine → Type 0
EditsColumns g change (Together machine) new = (next : WordData) × (new ≡ Together next) × EditsWords g change machine next
EditsColumns g change (InTurn machine) new = ⊥

-- both step together, or both take turns
abbrev pub IsOfKind : ColumnMachine → ColumnMachine → Type 0
IsOfKind (Together machine) new = IsTogether new
IsOfKind (InTurn machine) new = IsInTurn new
