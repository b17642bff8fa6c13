-- Lists of parts for nodes: those that read a node, or those that have it as a member.
use Rattle.std.specs.Prelude.{◌≡◌, ℕ, ◌<◌, ◌⊎◌, Bool, true, false, List, [], length, map, take, Contains, Vec, slice_index_or}
use Rattle.std.proofs.Common.{Global}
use Rattle.machine_parts.specs.declared.part.MachinePart.{MachinePart}
use Rattle.machine_parts.specs.Parts.{Stands}

-- the parts that are listed for a node
abbrev pub listed_at : List (Vec ℕ Global) → ℕ → List ℕ
listed_at lists node = slice_index_or (map (λ parts. parts.items) lists) node []

-- the nodes that a part reads, or its members
abbrev pub nodes_of : Bool → MachinePart → List ℕ
nodes_of true part = take part.members part.map.items
nodes_of false part = part.reads.items

-- the part with this number reads the node, or has it as a member
pub record IsAmong (members : Bool) (parts : List MachinePart) (k node : ℕ) : Type 0 where
  pub part : MachinePart
  pub stands : Stands parts k part
  pub among : Contains (nodes_of members part) node

-- for each node the parts that read it are listed, or that have it as a member, and no others
pub record AreLists (members : Bool) (parts : List MachinePart) (count : ℕ) (lists : List (Vec ℕ Global)) : Type 0 where
  pub counted : length lists ≡ count
  pub listed : (node k : ℕ) → IsAmong members parts k node → Contains (listed_at lists node) k
  pub only : (node k : ℕ) → Contains (listed_at lists node) k → IsAmong members parts k node

-- the part with this number is listed at these nodes too
pub record Lists (k : ℕ) (nodes : List ℕ) (old new : List (Vec ℕ Global)) : Type 0 where
  pub count : length new ≡ length old
  pub stays : (node l : ℕ) → Contains (listed_at old node) l → Contains (listed_at new node) l
  pub listed : (node : ℕ) → Contains nodes node → Contains (listed_at new node) k
  pub only : (node l : ℕ) → Contains (listed_at new node) l → Contains (listed_at old node) l ⊎ (Contains nodes node × (l ≡ k))

-- the parts with a lower number are listed, and no others
pub record AreListed (members : Bool) (parts : List MachinePart) (count i : ℕ) (lists : List (Vec ℕ Global)) : Type 0 where
  pub counted : length lists ≡ count
  pub listed : (node k : ℕ) → k < i → IsAmong members parts k node → Contains (listed_at lists node) k
  pub only : (node k : ℕ) → Contains (listed_at lists node) k → IsAmong members parts k node
