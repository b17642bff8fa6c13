-- Evaluation of parts over truths: what is noted in each column before any rail is written.
use Rattle.std.specs.Prelude.{◌≡◌, ℕ, ◌<◌, ◌≤◌, ◌⊎◌, Bool, List, length, All, Contains, vec_capacity}
use Rattle.std.specs.List.{sum_by}
use Rattle.ternary.specs.declared.tern.Tern.{Tern}
use Rattle.ternary.specs.Tern.{may_one, may_zero}
use Rattle.switch_paths.specs.Switching.{state_at}
use Rattle.part_words.specs.Noting.{after}
use Rattle.machine_parts.specs.declared.part.MachinePart.{MachinePart}
use Rattle.machine_parts.specs.Marking.{IsMarked, members_of}
use Rattle.machine_parts.specs.Stepping.{Gives}
use Rattle.machine_parts.specs.Making.{IsCodeRoom}
use Rattle.machine_parts.specs.Evaluating as single
use Rattle.truth_parts.specs.declared.workspace.TruthChange.{TruthChange}
use Rattle.truth_parts.specs.declared.workspace.Workspace.{Workspace}
use Rattle.truth_parts.specs.Columns.{IsColumn}
use Rattle.truth_parts.specs.Noting.{Differs, HasChange}

-- how much room a step has: for all that a code reads, for its outputs, for nodes that change, and for parts
pub record Rooms : Type 0 where
  pub values : ℕ
  pub outs : ℕ
  pub changes : ℕ
  pub parts : ℕ

abbrev pub rooms : {A : Type 0} → Workspace A → Rooms
rooms workspace = record {
  values = length workspace.values.items;
  outs = length workspace.out_hi.items;
  changes = vec_capacity workspace.changes;
  parts = vec_capacity workspace.done;
}

-- there is as much room for one rail of the outputs as for the other, and all truths in it are the maker's
pub record IsWorkspace {A : Type 0} (has : A → Type 0) (workspace : Workspace A) : Type 0 where
  pub even : length workspace.out_lo.items ≡ length workspace.out_hi.items
  pub values : All has workspace.values.items
  pub highs : All has workspace.out_hi.items
  pub lows : All has workspace.out_lo.items

-- the part's nodes are there, no two places of its map have one node, and its code fits it, as in a machine of one simulation; there is room
-- for its code and its outputs
pub record IsSeated (count : ℕ) (room : Rooms) (part : MachinePart) : Type 0 where
  pub other : single.Rooms
  pub seated : single.IsSeated count other part
  pub value_room : IsCodeRoom room.values part
  pub out_room : part.members ≤ room.outs

-- there is room for the steps of these parts
pub record HasRoomFor (parts : List MachinePart) (room : Rooms) : Type 0 where
  pub values : All (IsCodeRoom room.values) parts
  pub outs : All (λ part. part.members ≤ room.outs) parts
  pub changes : sum_by members_of parts ≤ room.changes
  pub parts_room : length parts ≤ room.parts

-- in the column the change is to what the code of the part with this number gives
pub record IsNext {A : Type 0} (joining : Bool) (parts : List MachinePart) (holds : A → ℕ → Bool) (state : List Tern) (k column : ℕ) (change : TruthChange A) : Type 0 where
  pub given : Tern
  pub gives : Gives parts state k change.node given
  pub one : holds change.hi column ≡ may_one (after joining (state_at state change.node) given)
  pub zero : holds change.lo column ≡ may_zero (after joining (state_at state change.node) given)

-- so it is in each column
abbrev pub IsNextInAll : {A : Type 0} → Bool → List MachinePart → ℕ → (A → ℕ → Bool) → List A → List A → ℕ → TruthChange A → Type 0
IsNextInAll joining parts columns holds hi lo k change =
    (column : ℕ) (state : List Tern) → IsColumn columns holds hi lo column state → IsNext joining parts holds state k column change

-- each node to which the code of the part with this number gives another state, in some column, is noted
abbrev pub NotesAll : {A : Type 0} → Bool → List MachinePart → ℕ → (A → ℕ → Bool) → List A → List A → ℕ → List (TruthChange A) → Type 0
NotesAll joining parts columns holds hi lo k changes =
    (column : ℕ) (state : List Tern) → IsColumn columns holds hi lo column state → (node : ℕ) (value : Tern) → Gives parts state k node value →
    HasChange changes node ⊎ (after joining (state_at state node) value ≡ state_at state node)

-- the part with this number makes the change, in some column to another state than the node has
pub record IsMadeBy {A : Type 0} (joining : Bool) (parts : List MachinePart) (columns : ℕ) (holds : A → ℕ → Bool) (hi lo : List A) (k : ℕ) (change : TruthChange A) : Type 0 where
  pub inside : change.node < length hi
  pub next : IsNextInAll joining parts columns holds hi lo k change
  pub differs : Differs columns holds hi lo change

-- the changes that the part with this number makes are noted behind what was noted, and no others
pub record Reports {A : Type 0} (joining : Bool) (parts : List MachinePart) (columns : ℕ) (holds : A → ℕ → Bool) (hi lo : List A) (k : ℕ)
    (old new : List (TruthChange A)) : Type 0 where
  pub kept : (change : TruthChange A) → Contains old change → Contains new change
  pub noted : NotesAll joining parts columns holds hi lo k new
  pub only : (change : TruthChange A) → Contains new change → Contains old change ⊎ IsMadeBy joining parts columns holds hi lo k change

-- some of the marked parts were taken, and aren't marked any more
pub record AreTaken (before marks : List Bool) (done : List ℕ) : Type 0 where
  pub count : length marks ≡ length before
  pub fewer : (k : ℕ) → IsMarked marks k → IsMarked before k
  pub marked : (k : ℕ) → Contains done k → IsMarked before k
  pub popped : (k : ℕ) → IsMarked before k → IsMarked marks k ⊎ Contains done k

-- these parts were evaluated: the changes that they make are noted, and no others
pub record Evaluated {A : Type 0} (joining : Bool) (parts : List MachinePart) (columns : ℕ) (holds : A → ℕ → Bool) (hi lo : List A)
    (changes : List (TruthChange A)) (done : List ℕ) : Type 0 where
  pub noted : (k : ℕ) → Contains done k → NotesAll joining parts columns holds hi lo k changes
  pub only : (change : TruthChange A) → Contains changes change → (k : ℕ) × Contains done k × IsMadeBy joining parts columns holds hi lo k change
