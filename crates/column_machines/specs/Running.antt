-- What lets a machine of columns run, and what a step does in each column.
use Rattle.std.specs.Prelude.{◌≡◌, ◌≢◌, ℕ, ◌<◌, ◌≤◌, ◌⊎◌, Bool, true, false, None, List, length, Contains, slice_index}
use Rattle.ternary.specs.declared.tern.Tern.{Tern}
use Rattle.settling.specs.Settling.{StaysOrBecomesX}
use Rattle.word_columns.specs.Columns.{is_in_column, AreRailsIn, AreUsed}
use Rattle.machine_parts.specs.declared.part.MachinePart.{MachinePart}
use Rattle.machine_parts.specs.Parts.{IsStale, ReadsAt}
use Rattle.machine_parts.specs.Stepping.{Moves}
use Rattle.machine_laws.specs.Machines.{MachineData}
use Rattle.machine_laws.specs.Columns.{KeepsMarks}
use Rattle.column_machines.specs.Evaluating.{Rooms, HasRoomFor}
use Rattle.column_machines.specs.declared.evaluation.WordChange.{WordChange}
use Rattle.column_machines.specs.Columns.{column_states, HasColumn}

-- the parts have marks, and there is room for a step
pub record IsRunnable (parts : List MachinePart) (marks : List Bool) (room : Rooms) : Type 0 where
  pub counted : length marks ≡ length parts
  pub room_for : HasRoomFor parts room

-- each node has a rail in each column
pub record AreColumns (columns : ℕ) (hi lo : List ℕ) : Type 0 where
  pub counted : length lo ≡ length hi
  pub each : (column : ℕ) → column < columns → AreRailsIn column hi lo (column_states column hi lo)

-- there are at most 64 columns, the machine has a state for each node, its parts can run, and there is a state in each column
pub record IsWordMachine (columns used : ℕ) (machine : MachineData) (marks : List Bool) (hi lo : List ℕ) (room : Rooms) : Type 0 where
  pub few : columns ≤ 64
  pub used_are : AreUsed columns used
  pub nodes : length hi ≡ length machine.state
  pub runs : IsRunnable machine.parts marks room
  pub columns_are : AreColumns columns hi lo

-- some change of the node is written
pub record IsWrittenAt (changes : List WordChange) (hi lo : List ℕ) (node : ℕ) : Type 0 where
  pub change : WordChange
  pub there : Contains changes change
  pub of_node : change.node ≡ node
  pub high : slice_index hi node ≡ change.hi
  pub low : slice_index lo node ≡ change.lo

-- no change is of the node, whose words stay
pub record IsLeftAt (changes : List WordChange) (old_hi old_lo hi lo : List ℕ) (node : ℕ) : Type 0 where
  pub none : (change : WordChange) → Contains changes change → change.node ≢ node
  pub high : slice_index hi node ≡ slice_index old_hi node
  pub low : slice_index lo node ≡ slice_index old_lo node

-- each node of which there is a change has the words of one, and every other node stays
pub record AreWritten (changes : List WordChange) (old_hi old_lo hi lo : List ℕ) : Type 0 where
  pub highs : length hi ≡ length old_hi
  pub lows : length lo ≡ length old_lo
  pub each : (node : ℕ) → IsWrittenAt changes hi lo node ⊎ IsLeftAt changes old_hi old_lo hi lo node

-- the part with this number reads some node that changes
pub record ReadsAny (parts : List MachinePart) (changes : List WordChange) (k : ℕ) : Type 0 where
  pub change : WordChange
  pub changes_it : Contains changes change
  pub reads : ReadsAt parts k change.node

-- the part has members, and no code
pub record IsBare (part : MachinePart) : Type 0 where
  pub some : 0 < part.members
  pub none : part.code ≡ None

-- the part with this number was evaluated, and stays marked: in a joining step each does, in a plain one those that are stale
abbrev pub StaysOn : Bool → List MachinePart → List ℕ → ℕ → Type 0
StaysOn joining parts done k = Contains done k × ((joining ≡ true) ⊎ IsStale parts k)

-- a column takes a step, plain or joining, and the bit tells whether the step changed it
pub record StepsTo (joining : Bool) (parts : List MachinePart) (marks new_marks : List Bool) (state next : List Tern) (bit : Bool) : Type 0 where
  pub moves : Moves joining parts marks state next
  pub keeps : KeepsMarks joining parts marks state next new_marks
  pub changed : bit ≡ true → next ≢ state
  pub same : bit ≡ false → next ≡ state
  pub unknown : joining ≡ true → StaysOrBecomesX state next

-- each used column takes a step
pub record StepsInAll (joining : Bool) (parts : List MachinePart) (used : ℕ) (marks new_marks : List Bool) (hi lo new_hi new_lo : List ℕ) (changed : ℕ) : Type 0 where
  pub highs : length new_hi ≡ length hi
  pub lows : length new_lo ≡ length lo
  pub marks_counted : length new_marks ≡ length marks
  pub has : (column : ℕ) (state : List Tern) → HasColumn used hi lo column state →
      AreRailsIn column new_hi new_lo (column_states column new_hi new_lo)
  pub each : (column : ℕ) (state : List Tern) → HasColumn used hi lo column state →
      StepsTo joining parts marks new_marks state (column_states column new_hi new_lo) (is_in_column column changed)
  pub beyond : (column : ℕ) → is_in_column column used ≡ false → is_in_column column changed ≡ false
