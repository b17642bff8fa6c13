-- What a machine is made of: parts with the nodes that they read, who owns and who reads a node, and room for the steps.
use Rattle.std.specs.Prelude.{◌≡◌, ℕ, ◌+◌, ◌-◌, ◌*◌, ◌^◌, ◌<◌, ◌≤◌, ◌⊎◌, List, length, All, Contains, Option, Some, None, Vec, slice_index, slice_index_or}
use Rattle.std.specs.declared.rc.Rc.{Rc}
use Rattle.std.specs.List.{sum_by}
use Rattle.std.proofs.Common.{Global}
use Rattle.straight_code.specs.Code.{CodeData}
use Rattle.straight_code.specs.declared.part.Part.{Part}
use Rattle.machine_parts.specs.declared.part.MachinePart.{MachinePart}
use Rattle.machine_parts.specs.Marking.{members_of}
use Rattle.machine_parts.specs.Evaluating.{Rooms}
use Rattle.machine_parts.specs.Parts.{HasMember}

-- a part with the nodes that it reads
abbrev pub held : Part × Vec ℕ Global → MachinePart
held (part, reads) = record { code = Some part.code; map = part.map; members = part.members; reads = reads }

-- a part over so many nodes: its nodes are there, no two places of its map have one node, and its code fits it, if it has one
pub record IsFormed (count : ℕ) (part : MachinePart) : Type 0 where
  pub below : All (λ node. node < count) part.map.items
  pub members : part.members ≤ length part.map.items
  pub apart : (i j : ℕ) → i < length part.map.items → j < length part.map.items →
      slice_index part.map.items i ≡ slice_index part.map.items j → i ≡ j
  pub inputs : (code : Rc CodeData Global) → part.code ≡ Some code → length part.map.items ≡ code.value.inputs
  pub outputs : (code : Rc CodeData Global) → part.code ≡ Some code → length code.value.outputs ≡ part.members

-- the part with this number becomes the owner of these nodes, and all other nodes keep theirs
pub record Owns (k : ℕ) (members : List ℕ) (old new : List (Option ℕ)) : Type 0 where
  pub count : length new ≡ length old
  pub owned : (node : ℕ) → Contains members node → slice_index_or new node None ≡ Some k
  pub stays : (node : ℕ) → ¬ Contains members node → slice_index_or new node None ≡ slice_index_or old node None

-- there is room for so many values, and the part's code reads no more
abbrev pub IsCodeRoom : ℕ → MachinePart → Type 0
IsCodeRoom count part =
    (code : Rc CodeData Global) → part.code ≡ Some code → 2 + 2 * code.value.inputs + length code.value.instructions ≤ count

-- these parts have more members, or code of theirs reads more values, than a number of the machine counts
abbrev pub NeedTooMuch : List MachinePart → Type 0
NeedTooMuch parts = (2 ^ 64 ≤ sum_by members_of parts) ⊎ (¬ All (IsCodeRoom (2 ^ 64 - 1)) parts)

-- there is room for the steps of these parts
pub record HasRoomFor (parts : List MachinePart) (room : Rooms) : Type 0 where
  pub values : All (IsCodeRoom room.values) parts
  pub changes : sum_by members_of parts ≤ room.changes
  pub parts_room : length parts ≤ room.parts

-- the members of the parts with a lower number have their owners, and no other node has one
pub record AreOwned (parts : List MachinePart) (count i : ℕ) (owners : List (Option ℕ)) : Type 0 where
  pub counted : length owners ≡ count
  pub owner : (node k : ℕ) → k < i → HasMember parts k node → slice_index_or owners node None ≡ Some k
  pub member : (node k : ℕ) → slice_index_or owners node None ≡ Some k → HasMember parts k node
