-- What lets a machine run, and how the changes of a step are taken over.
use Rattle.std.specs.Prelude.{◌≡◌, ◌≢◌, ℕ, ◌≤◌, Bool, List, length, count_by, All, Contains, Option, None, Some, slice_index_or}
use Rattle.std.specs.List.{sum_by}
use Rattle.smallvec.specs.SmallVec.{SmallVec}
use Rattle.ternary.specs.declared.tern.Tern.{Tern}
use Rattle.switch_paths.specs.Switching.{state_at}
use Rattle.machine_parts.specs.declared.part.MachinePart.{MachinePart}
use Rattle.part_words.specs.declared.change.Change.{Change}
use Rattle.machine_parts.specs.Parts.{HasMember, ReadsAt, IsStale, AreApart, has_members}
use Rattle.machine_parts.specs.Readers.{readers_of}
use Rattle.machine_parts.specs.Marking.{IsMarked, members_of, IsReached}
use Rattle.machine_parts.specs.Evaluating.{Rooms, IsSeated}

-- the parts are seated, share no members, and have marks; the stale ones wait; each node has its readers; and there is room for a step
pub record IsRunnable (parts : List MachinePart) (marks : List Bool) (waiting : List Bool) (count : ℕ) (lists : List (SmallVec ℕ)) (room : Rooms) : Type 0 where
  pub counted : length marks ≡ length parts
  pub seated : All (IsSeated count room) parts
  pub apart : AreApart parts
  pub waits : (k : ℕ) → IsMarked waiting k → IsStale parts k
  pub stale : (k : ℕ) → IsStale parts k → IsMarked waiting k
  pub readers_counted : length lists ≡ count
  pub readers : (node k : ℕ) → ReadsAt parts k node → Contains (readers_of lists node) k
  pub reads : (node k : ℕ) → Contains (readers_of lists node) k → ReadsAt parts k node
  pub changes_room : sum_by members_of parts ≤ room.changes
  pub parts_room : length parts ≤ room.parts

-- each node has the part that it is a member of, if there is one
pub record AreOwners (parts : List MachinePart) (count : ℕ) (owners : List (Option ℕ)) : Type 0 where
  pub counted : length owners ≡ count
  pub owner : (node k : ℕ) → HasMember parts k node → slice_index_or owners node None ≡ Some k
  pub member : (node k : ℕ) → slice_index_or owners node None ≡ Some k → HasMember parts k node

-- changes of one node agree
abbrev pub AreAgreed : List Change → Type 0
AreAgreed changes = (one two : Change) → Contains changes one → Contains changes two → one.node ≡ two.node → one.value ≡ two.value

-- each node that is to change has its new state, and every other node stays
pub record IsTaken (changes : List Change) (old new : List Tern) : Type 0 where
  pub count : length new ≡ length old
  pub taken : (change : Change) → Contains changes change → state_at new change.node ≡ change.value
  pub stays : (node : ℕ) → ((change : Change) → Contains changes change → change.node ≢ node) → state_at new node ≡ state_at old node

-- the part with this number is listed as a reader of some node that changes
abbrev pub ReadsAny : List (SmallVec ℕ) → List Change → ℕ → Type 0
ReadsAny readers = IsReached (λ (change : Change). readers_of readers change.node)

-- the machine can run, knows the owners of its nodes, has a text or none for each part, and counts the parts with members; and there is
-- room for so many changes as it has members
pub record IsMachine (parts : List MachinePart) (marks : List Bool) (waiting : List Bool) (count : ℕ) (lists : List (SmallVec ℕ)) (owners : List (Option ℕ))
    (numbers : List (Option ℕ)) (held most : ℕ) (room : Rooms) : Type 0 where
  pub runs : IsRunnable parts marks waiting count lists room
  pub own : AreOwners parts count owners
  pub numbered : length parts ≤ length numbers
  pub number : held ≡ count_by has_members parts
  pub most_members : sum_by members_of parts ≤ most
  pub most_room : most ≤ room.changes
