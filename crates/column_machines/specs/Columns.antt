-- A machine of columns as contracts see it: one machine's parts and one set of marks serve all columns, and each column is a machine of its own
-- that shares them.
use Rattle.std.specs.Prelude.{◌≡◌, ℕ, ◌<◌, None, Bool, true, false, List, length, map, zip, ◌||◌}
use Rattle.ternary.specs.declared.tern.Tern.{Tern}
use Rattle.ternary.specs.declared.tern.Tern.TheVariants.{Zero, One, Unk}
use Rattle.switch_paths.specs.Graphs.{GraphData, nodes}
use Rattle.switch_paths.specs.Rails.{IsSound}
use Rattle.word_columns.specs.Columns.{is_in_column, AreRailsIn}
use Rattle.circuit_texts.specs.Sizes.{AllFit}
use Rattle.machine_laws.specs.Machines.{MachineData}
use Rattle.machine_laws.specs.Fitting.{Covers, FitsGraph}
use Rattle.machine_laws.specs.Beginnings.{HasLast}
use Rattle.machine_laws.specs.Columns.{in_column, HasNoTexts}

-- the number of columns, the machine whose parts and groups are theirs, which parts are marked, both rails of each node's states, bit i for column
-- i, and for how many nodes more there is room
pub record WordData : Type 0 where
  pub columns : ℕ
  pub machine : MachineData
  pub marks : List Bool
  pub hi : List ℕ
  pub lo : List ℕ
  pub spare : ℕ

-- the state with these rails, "may be 1" first; if neither is set there is none, and X stands for it
abbrev pub state_with : Bool → Bool → Tern
state_with false false = Unk
state_with false true = Zero
state_with true false = One
state_with true true = Unk

-- the state of a node in a column
abbrev pub state_in : ℕ → ℕ × ℕ → Tern
state_in column (hi, lo) = state_with (is_in_column column hi) (is_in_column column lo)

-- the states of a column
abbrev pub column_states : ℕ → List ℕ → List ℕ → List Tern
column_states column hi lo = map (state_in column) (zip hi lo)

-- the state of a column of the machine
abbrev pub column_of : WordData → ℕ → List Tern
column_of m column = column_states column m.hi m.lo

-- a column is the machine with the marks of all columns and the column's states
abbrev pub machine_of : WordData → ℕ → MachineData
machine_of m column = in_column m.machine m.marks (column_of m column)

-- the machine fits the graph, none of whose groups it steps by vicinities, and so does each column; and it has the texts of the graph's groups
pub record FitsInWords (g : GraphData) (m : WordData) : Type 0 where
  pub plain : FitsGraph g m.machine
  pub without : m.machine.wide ≡ None
  pub last : HasLast g m.machine.last
  pub each : (column : ℕ) → column < m.columns → FitsGraph g (machine_of m column)

-- the machine covers the graph, none of whose groups is too large for a text, and so does each column: what is stale has no text yet
pub record CoversInWords (g : GraphData) (m : WordData) : Type 0 where
  pub plain : Covers g m.machine
  pub sound : IsSound m.machine.state
  pub without : m.machine.wide ≡ None
  pub untold : HasNoTexts m.machine
  pub fit : AllFit g
  pub each : (column : ℕ) → column < m.columns → Covers g (machine_of m column)

-- in this column the words are the rails of a sound state of the graph's nodes
pub record HasSoundColumn (g : GraphData) (hi lo : List ℕ) (column : ℕ) : Type 0 where
  pub state : List Tern
  pub has : AreRailsIn column hi lo state
  pub counted : length state ≡ nodes g
  pub sound : IsSound state

-- the words of a node have some rail in each column
abbrev pub HasStates : ℕ → ℕ → ℕ → Type 0
HasStates columns hi lo = (column : ℕ) → column < columns → (is_in_column column hi || is_in_column column lo) ≡ true

-- the column is one of those that the word tells, and in it the words are the rails of these states
pub record HasColumn (used : ℕ) (hi lo : List ℕ) (column : ℕ) (state : List Tern) : Type 0 where
  pub inside : column < 64
  pub used_is : is_in_column column used ≡ true
  pub has : AreRailsIn column hi lo state
