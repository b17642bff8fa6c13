-- The parts of a machine: which nodes are their members, and which they read.
-- After Bryant, Beatty, Brace, Cho and Sheffler, "COSMOS: A Compiled Simulator for MOS Circuits", 1987.
use Rattle.std.specs.Prelude.{◌≡◌, ℕ, ◌<◌, List, length, Contains, None, nat_lt, Bool, slice_index, slice_index_or}
use Rattle.machine_parts.specs.declared.part.MachinePart.{MachinePart}

-- the part with this number
pub record Stands (parts : List MachinePart) (k : ℕ) (part : MachinePart) : Type 0 where
  pub inside : k < length parts
  pub here : slice_index_or parts k part ≡ part

-- the node is the member at this place of the part's map
pub record IsMemberAt (part : MachinePart) (place node : ℕ) : Type 0 where
  pub inside : place < part.members
  pub within : place < length part.map.items
  pub here : slice_index part.map.items place ≡ node

-- the node is a member of the part with this number
pub record HasMember (parts : List MachinePart) (k node : ℕ) : Type 0 where
  pub part : MachinePart
  pub stands : Stands parts k part
  pub place : ℕ
  pub member : IsMemberAt part place node

-- the part with this number reads the node
pub record ReadsAt (parts : List MachinePart) (k node : ℕ) : Type 0 where
  pub part : MachinePart
  pub stands : Stands parts k part
  pub reads : Contains part.reads.items node

-- the part with this number is stale: it has a group, and no code
pub record IsStale (parts : List MachinePart) (k : ℕ) : Type 0 where
  pub part : MachinePart
  pub stands : Stands parts k part
  pub some : 0 < part.members
  pub none : part.code ≡ None

-- no node is a member of two parts
abbrev pub AreApart : List MachinePart → Type 0
AreApart parts = (k l node : ℕ) → HasMember parts k node → HasMember parts l node → k ≡ l

-- the part has a member
abbrev pub has_members : MachinePart → Bool
has_members part = nat_lt 0 part.members
