-- What lets parts run over truths, and what a step does in each column.
use Rattle.std.specs.Prelude.{◌≡◌, ◌≢◌, ℕ, ◌<◌, ◌≤◌, ◌⊎◌, Bool, true, false, List, length, All, Contains, Vec, slice_index_or}
use Rattle.std.specs.List.{sum_by}
use Rattle.std.proofs.Common.{Global}
use Rattle.ternary.specs.declared.tern.Tern.{Tern}
use Rattle.settling.specs.Settling.{StaysOrBecomesX}
use Rattle.truth_columns.specs.Columns.{HasColumn}
use Rattle.machine_parts.specs.declared.part.MachinePart.{MachinePart}
use Rattle.machine_parts.specs.Parts.{IsStale, AreApart}
use Rattle.machine_parts.specs.Marking.{members_of, IsReached}
use Rattle.machine_parts.specs.Stepping.{Moves}
use Rattle.machine_laws.specs.Columns.{KeepsMarks}
use Rattle.part_lists.specs.Listing.{listed_at, AreLists}
use Rattle.truth_parts.specs.declared.workspace.TruthChange.{TruthChange}
use Rattle.truth_parts.specs.Columns.{states_in, IsColumn}
use Rattle.truth_parts.specs.Evaluating.{Rooms, IsSeated}

-- the parts are seated, share no members, have marks, and none of them is stale; each node has its readers; and there is room for a step
pub record IsRunnable (parts : List MachinePart) (marks : List Bool) (count : ℕ) (readers : List (Vec ℕ Global)) (room : Rooms) : Type 0 where
  pub counted : length marks ≡ length parts
  pub seated : All (IsSeated count room) parts
  pub apart : AreApart parts
  pub fresh : (k : ℕ) → ¬ IsStale parts k
  pub readers_are : AreLists false parts count readers
  pub changes_room : sum_by members_of parts ≤ room.changes
  pub parts_room : length parts ≤ room.parts

-- a node has this truth
abbrev pub IsAt : {A : Type 0} → List A → ℕ → A → Type 0
IsAt {A} truths node truth = (past : A) → slice_index_or truths node past ≡ truth

-- a node has the truth that it had
abbrev pub StaysAt : {A : Type 0} → List A → List A → ℕ → Type 0
StaysAt {A} old new node = (past : A) → slice_index_or new node past ≡ slice_index_or old node past

-- some change of the node is written
pub record IsWrittenAt {A : Type 0} (changes : List (TruthChange A)) (hi lo : List A) (node : ℕ) : Type 0 where
  pub change : TruthChange A
  pub there : Contains changes change
  pub of_node : change.node ≡ node
  pub high : IsAt hi node change.hi
  pub low : IsAt lo node change.lo

-- no change is of the node, whose rails stay
pub record IsLeftAt {A : Type 0} (changes : List (TruthChange A)) (old_hi old_lo hi lo : List A) (node : ℕ) : Type 0 where
  pub none : (change : TruthChange A) → Contains changes change → change.node ≢ node
  pub high : StaysAt old_hi hi node
  pub low : StaysAt old_lo lo node

-- each node of which there is a change has the rails of one, and every other node stays
pub record AreWritten {A : Type 0} (changes : List (TruthChange A)) (old_hi old_lo hi lo : List A) : Type 0 where
  pub highs : length hi ≡ length old_hi
  pub lows : length lo ≡ length old_lo
  pub each : (node : ℕ) → IsWrittenAt changes hi lo node ⊎ IsLeftAt changes old_hi old_lo hi lo node

-- the part with this number is listed for some node that changes
abbrev pub ReadsAny : {A : Type 0} → List (Vec ℕ Global) → List (TruthChange A) → ℕ → Type 0
ReadsAny {A} readers = IsReached (λ (change : TruthChange A). listed_at readers change.node)

-- a column takes a step, plain or joining
pub record StepsTo (joining : Bool) (parts : List MachinePart) (marks new_marks : List Bool) (state next : List Tern) : Type 0 where
  pub moves : Moves joining parts marks state next
  pub keeps : KeepsMarks joining parts marks state next new_marks
  pub unknown : joining ≡ true → StaysOrBecomesX state next

-- in some column these are other states than those
pub record MovesSome {A : Type 0} (columns : ℕ) (holds : A → ℕ → Bool) (hi lo new_hi new_lo : List A) : Type 0 where
  pub column : ℕ
  pub inside : column < columns
  pub other : (state : List Tern) → HasColumn holds column hi lo state → states_in holds column new_hi new_lo ≢ state

-- each column takes a step, and whether some column changed is told
pub record StepsInAll {A : Type 0} (joining : Bool) (parts : List MachinePart) (columns : ℕ) (holds : A → ℕ → Bool) (marks new_marks : List Bool)
    (hi lo new_hi new_lo : List A) (moved : Bool) : Type 0 where
  pub highs : length new_hi ≡ length hi
  pub lows : length new_lo ≡ length lo
  pub marks_counted : length new_marks ≡ length marks
  pub has : (column : ℕ) (state : List Tern) → IsColumn columns holds hi lo column state → HasColumn holds column new_hi new_lo (states_in holds column new_hi new_lo)
  pub each : (column : ℕ) (state : List Tern) → IsColumn columns holds hi lo column state →
      StepsTo joining parts marks new_marks state (states_in holds column new_hi new_lo)
  pub some : moved ≡ true → MovesSome columns holds hi lo new_hi new_lo
  pub none : moved ≡ false → (column : ℕ) (state : List Tern) → IsColumn columns holds hi lo column state → states_in holds column new_hi new_lo ≡ state
