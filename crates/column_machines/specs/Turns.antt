-- One machine that takes the states of the columns in turn.
use Rattle.std.specs.Prelude.{◌≡◌, ◌≢◌, ℕ, ◌<◌, ◌≤◌, Bool, List, length, Option, Some, None, IfSome, slice_index_or}
use Rattle.std.proofs.Common.{get_or}
use Rattle.ternary.specs.declared.tern.Tern.{Tern}
use Rattle.ternary.specs.Tern.{may_one, may_zero}
use Rattle.switch_paths.specs.declared.TheConstants.{RAILS}
use Rattle.switch_paths.specs.Words.{GraphData, state_at, IsSound, IsStep}
use Rattle.settling.specs.declared.settling.TheConstants.{MOST_LIMIT}
use Rattle.settling.specs.declared.settling.Settled.{Settled}
use Rattle.settling.specs.Settling.{Settles}
use Rattle.word_columns.specs.Columns.{is_in_column, AreUsed}
use Rattle.machine_laws.specs.Machines.{MachineData}
use Rattle.machine_laws.specs.Fitting.{FitsGraph}
use Rattle.vicinity.specs.NodeSets.{IsIn}
use Rattle.column_machines.specs.Columns.{column_states}
use Rattle.column_machines.specs.Running.{AreColumns}

-- the number of columns, the machine with some state, and both rails of each node's states, bit i for column i
pub record TurnData : Type 0 where
  pub columns : ℕ
  pub machine : MachineData
  pub hi : List ℕ
  pub lo : List ℕ

-- there are at most 64 columns, in each the words are the rails of states, and the machine has a state for each of them
pub record IsTurnMachine (m : TurnData) : Type 0 where
  pub few : m.columns ≤ 64
  pub columns_are : AreColumns m.columns m.hi m.lo
  pub counted : length m.machine.state ≡ length m.hi

-- outside of these nodes all columns have the machine's own state
pub record IsEvenBut (uneven : List Bool) (m : TurnData) : Type 0 where
  pub counted : length uneven ≡ length m.hi
  pub even : (column node : ℕ) → column < m.columns → node < length m.hi → (¬ IsIn uneven node) →
      state_at (column_states column m.hi m.lo) node ≡ state_at m.machine.state node

-- the machine takes turns: it knows its columns' bits, outside of its uneven nodes all columns are even, and there is room for as many more
pub record IsTurning (used : ℕ) (uneven spare : List Bool) (m : TurnData) : Type 0 where
  pub is : IsTurnMachine m
  pub used_are : AreUsed m.columns used
  pub even : IsEvenBut uneven m
  pub room : length spare ≡ length m.hi

-- what stays while the machine itself moves: the number of columns, and their words
abbrev pub words_of : TurnData → ℕ × (List ℕ × List ℕ)
words_of m = (m.columns, (m.hi, m.lo))

-- the machine fits the graph, and the rails have their states in each column
pub record FitsInTurn (g : GraphData) (m : TurnData) : Type 0 where
  pub fits : FitsGraph g m.machine
  pub even : length m.lo ≡ length m.hi
  pub sound : (column : ℕ) → column < m.columns → IsSound (column_states column m.hi m.lo)

-- a limit of a phase, if there is one
abbrev pub IsLimit : Option ℕ → Type 0
IsLimit limit = IfSome limit (λ limit. (1 ≤ limit) × (limit ≤ MOST_LIMIT))

-- a unit step leads from a state to the next, or a phase, if there is a limit
abbrev pub MovesBy : GraphData → Option ℕ → List Tern → List Tern → Settled → Type 0
MovesBy g (Some limit) old new settled = Settles g old limit new settled.steps settled.joined
MovesBy g None old new settled = IsStep g old new

-- in one rail's words each node has its state's rail in a column; the other columns stay
pub record WritesRail (rail : Tern → Bool) (column : ℕ) (state : List Tern) (old new : List ℕ) : Type 0 where
  pub counted : length new ≡ length old
  pub here : (node : ℕ) → node < length state → is_in_column column (get_or new node 0) ≡ rail (state_at state node)
  pub others : (other node : ℕ) → other < 64 → other ≢ column → is_in_column other (get_or new node 0) ≡ is_in_column other (get_or old node 0)

-- so it is in both rails
pub record Writes (column : ℕ) (state : List Tern) (hi lo new_hi new_lo : List ℕ) : Type 0 where
  pub ones : WritesRail may_one column state hi new_hi
  pub zeros : WritesRail may_zero column state lo new_lo

-- in one rail's words these nodes have their states' rail in a column; the other columns stay, and all other nodes
pub record WritesRailAt (These : ℕ → Type 0) (rail : Tern → Bool) (column : ℕ) (state : List Tern) (old new : List ℕ) : Type 0 where
  pub counted : length new ≡ length old
  pub here : (node : ℕ) → These node → is_in_column column (get_or new node 0) ≡ rail (state_at state node)
  pub elsewhere : (node : ℕ) → (¬ These node) → get_or new node 0 ≡ get_or old node 0
  pub others : (other node : ℕ) → other < 64 → other ≢ column → is_in_column other (get_or new node 0) ≡ is_in_column other (get_or old node 0)

-- so it is in both rails
pub record WritesAt (These : ℕ → Type 0) (column : ℕ) (state : List Tern) (hi lo new_hi new_lo : List ℕ) : Type 0 where
  pub ones : WritesRailAt These may_one column state hi new_hi
  pub zeros : WritesRailAt These may_zero column state lo new_lo

-- a column moved: its states are the machine's, and those of the other columns stay
pub record RunsOne (g : GraphData) (limit : Option ℕ) (column : ℕ) (old new : MachineData) (hi lo new_hi new_lo : List ℕ) (settled : Settled) : Type 0 where
  pub counted : length new.state ≡ length new_hi
  pub writes : Writes column new.state hi lo new_hi new_lo
  pub fits : FitsGraph g old → FitsGraph g new
  pub moves : FitsGraph g old → IsSound (column_states column hi lo) → MovesBy g limit (column_states column hi lo) new.state settled

-- the first columns, so many, moved in turn, and their places tell how; the others are as they were
pub record HaveRun (g : GraphData) (limit : Option ℕ) (count : ℕ) (old new : TurnData) (out : List Settled) : Type 0 where
  pub is_machine : IsTurnMachine new
  pub columns : new.columns ≡ old.columns
  pub highs : length new.hi ≡ length old.hi
  pub still : (column : ℕ) → count ≤ column → column < old.columns → column_states column new.hi new.lo ≡ column_states column old.hi old.lo
  pub fits : FitsInTurn g old → FitsGraph g new.machine
  pub sound : FitsInTurn g old → (column : ℕ) → column < count → IsSound (column_states column new.hi new.lo)
  pub moved : FitsInTurn g old → (column : ℕ) (past : Settled) → column < count →
      MovesBy g limit (column_states column old.hi old.lo) (column_states column new.hi new.lo) (slice_index_or out column past)

-- the machine has a column's states at these nodes, but for the rails, and its own at all others; it fits the graph that it fitted
pub record IsLoaded (g : GraphData) (column : ℕ) (These : ℕ → Type 0) (hi lo : List ℕ) (old new : MachineData) : Type 0 where
  pub nodes : length new.state ≡ length old.state
  pub fits : FitsGraph g old → FitsGraph g new
  pub here : (node : ℕ) → These node → RAILS ≤ node → state_at new.state node ≡ state_at (column_states column hi lo) node
  pub elsewhere : (node : ℕ) → (¬ These node) → state_at new.state node ≡ state_at old.state node
  pub rails : (node : ℕ) → node < RAILS → state_at new.state node ≡ state_at old.state node
