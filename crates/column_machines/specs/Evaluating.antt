-- Evaluation of parts on words: what is noted in each column before any word of a state is written.
use Rattle.std.specs.Prelude.{◌≡◌, ℕ, ◌<◌, ◌≤◌, ◌⊎◌, Bool, List, length, All, Contains, vec_capacity}
use Rattle.std.specs.List.{sum_by}
use Rattle.ternary.specs.declared.tern.Tern.{Tern}
use Rattle.ternary.specs.Tern.{may_one, may_zero}
use Rattle.switch_paths.specs.Switching.{state_at}
use Rattle.word_columns.specs.Columns.{is_in_column}
use Rattle.machine_parts.specs.declared.part.MachinePart.{MachinePart}
use Rattle.machine_parts.specs.Marking.{IsMarked, members_of}
use Rattle.machine_parts.specs.Stepping.{Gives}
use Rattle.part_words.specs.Noting.{after}
use Rattle.column_machines.specs.declared.evaluation.WordChange.{WordChange}
use Rattle.column_machines.specs.declared.evaluation.Workspace.{Workspace}
use Rattle.column_machines.specs.Columns.{HasColumn}
use Rattle.column_machines.specs.Noting.{HasChange}

-- how much room a step has: for the outputs of a code, for nodes that change, and for parts
pub record Rooms : Type 0 where
  pub outs : ℕ
  pub changes : ℕ
  pub parts : ℕ

abbrev pub rooms : Workspace → Rooms
rooms workspace = record {
  outs = length workspace.out_hi.items;
  changes = vec_capacity workspace.changes;
  parts = vec_capacity workspace.done;
}

-- there is room for the steps of these parts
pub record HasRoomFor (parts : List MachinePart) (room : Rooms) : Type 0 where
  pub outs : All (λ part. part.members ≤ room.outs) parts
  pub changes : sum_by members_of parts ≤ room.changes
  pub parts_room : length parts ≤ room.parts

-- there is as much room for one rail of the outputs as for the other
abbrev pub IsEven : Workspace → Type 0
IsEven workspace = length workspace.out_lo.items ≡ length workspace.out_hi.items

-- in the column the change is to what the code of the part with this number gives
pub record IsNext (joining : Bool) (parts : List MachinePart) (state : List Tern) (k column : ℕ) (change : WordChange) : Type 0 where
  pub given : Tern
  pub gives : Gives parts state k change.node given
  pub one : is_in_column column change.hi ≡ may_one (after joining (state_at state change.node) given)
  pub zero : is_in_column column change.lo ≡ may_zero (after joining (state_at state change.node) given)

-- so it is in each used column
abbrev pub IsNextInAll : Bool → List MachinePart → ℕ → List ℕ → List ℕ → ℕ → WordChange → Type 0
IsNextInAll joining parts used hi lo k change =
    (column : ℕ) (state : List Tern) → HasColumn used hi lo column state → IsNext joining parts state k column change

-- each node to which the code of the part with this number gives another state, in some used column, is noted
abbrev pub NotesAll : Bool → List MachinePart → ℕ → List ℕ → List ℕ → ℕ → List WordChange → Type 0
NotesAll joining parts used hi lo k changes =
    (column : ℕ) (state : List Tern) → HasColumn used hi lo column state → (node : ℕ) (value : Tern) → Gives parts state k node value →
    HasChange changes node ⊎ (after joining (state_at state node) value ≡ state_at state node)

-- the changes that the part with this number makes are noted behind what was noted, and no others
pub record Reports (joining : Bool) (parts : List MachinePart) (used : ℕ) (hi lo : List ℕ) (k : ℕ) (old new : List WordChange) : Type 0 where
  pub kept : (change : WordChange) → Contains old change → Contains new change
  pub noted : NotesAll joining parts used hi lo k new
  pub only : (change : WordChange) → Contains new change → Contains old change ⊎ ((change.node < length hi) × IsNextInAll joining parts used hi lo k change)

-- some of the marked parts were evaluated: they aren't marked any more, and the changes that they make are noted
pub record Evaluated (joining : Bool) (parts : List MachinePart) (used : ℕ) (hi lo : List ℕ) (before marks : List Bool)
    (changes : List WordChange) (done : List ℕ) : Type 0 where
  pub fewer : (k : ℕ) → IsMarked marks k → IsMarked before k
  pub marked : (k : ℕ) → Contains done k → IsMarked before k
  pub popped : (k : ℕ) → IsMarked before k → IsMarked marks k ⊎ Contains done k
  pub noted : (k : ℕ) → Contains done k → NotesAll joining parts used hi lo k changes
  pub inside : (change : WordChange) → Contains changes change → change.node < length hi
  pub only : (change : WordChange) → Contains changes change → (k : ℕ) × Contains done k × IsNextInAll joining parts used hi lo k change
