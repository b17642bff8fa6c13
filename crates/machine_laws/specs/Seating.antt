-- Parts that lose their group in an edit, and parts for new groups.
use Rattle.std.specs.Prelude.{◌≡◌, ℕ, take, ◌+◌, ◌<◌, ◌≤◌, ◌⊎◌, ◌↔◌, List, [], ◌∷◌, ◌++◌, true, if◌then◌else◌, length, Contains, Option, None, Some, slice_set, slice_index_or}
use Rattle.std.specs.List.{AllZip}
use Rattle.switch_paths.specs.Graphs.{GraphData, IsStorage}
use Rattle.group_meaning.specs.Groups.{Group, AreGroups}
use Rattle.machine_parts.specs.declared.part.MachinePart.{MachinePart}
use Rattle.machine_parts.specs.Parts.{Stands, HasMember, has_members}
use Rattle.vicinity.specs.Wides.{WideData}
use Rattle.machine_laws.specs.Machines.{MachineData}
use Rattle.machine_parts.specs.Marking.{IsMarked}

-- these nodes have no owner any more, and all other nodes keep theirs
pub record Disowns (members : List ℕ) (old new : List (Option ℕ)) : Type 0 where
  pub count : length new ≡ length old
  pub gone : (node : ℕ) → Contains members node → slice_index_or new node None ≡ None
  pub stays : (node : ℕ) → ¬ Contains members node → slice_index_or new node None ≡ slice_index_or old node None

-- the part has no group: it has no members and no code, and reads nothing
pub record IsVacant (part : MachinePart) : Type 0 where
  pub code : part.code ≡ None
  pub map : part.map.items ≡ []
  pub members : part.members ≡ 0
  pub reads : part.reads.items ≡ []

-- the part is that of a group with these members, and is stale
pub record IsStalePartOf (nodes : List ℕ) (part : MachinePart) : Type 0 where
  pub code : part.code ≡ None
  pub map : part.map.items ≡ nodes
  pub members : part.members ≡ length nodes
  pub reads : part.reads.items ≡ []

-- a stale part for each of these groups came behind the others, in order
pub record AddsStale (groups : List Group) (old new : List MachinePart) : Type 0 where
  pub more : List MachinePart
  pub are : AllZip (λ group part. IsStalePartOf group.members part) groups more
  pub parts : new ≡ old ++ more

-- there is a place for the text of each part; one without members has no text, and one without code reads nothing
pub record IsTidy (m : MachineData) : Type 0 where
  pub counted : length m.uses ≡ length m.parts
  pub textless : (k : ℕ) (part : MachinePart) → Stands m.parts k part → part.members ≡ 0 → slice_index_or m.uses k None ≡ None
  pub quiet : (k : ℕ) (part : MachinePart) → Stands m.parts k part → part.code ≡ None → part.reads.items ≡ []

-- how many parts with members a part is
abbrev pub one_of : MachinePart → ℕ
one_of part = if has_members part then 1 else 0

-- all but the parts, their texts and their marks, and what is stepped by vicinities, stays
pub record KeepsRest (old new : MachineData) : Type 0 where
  pub groups : new.groups ≡ old.groups
  pub state : new.state ≡ old.state
  pub last : new.last ≡ old.last
  pub moves : new.moves ≡ old.moves
  pub placed : new.placed ≡ old.placed
  pub spare : new.spare ≡ old.spare

-- a storage node of the graph is a member of none of the parts any more that had it
pub record Loses (g : GraphData) (old new : List MachinePart) : Type 0 where
  pub node : ℕ
  pub storage : IsStorage g node
  pub gone : (k : ℕ) (part : MachinePart) → Stands old k part → Contains (take part.members part.map.items) node → ¬ Stands new k part

-- if the groups that are stepped by vicinities are known, they are as before, and each part stands that had one of their members; if they
-- aren't known any more, one of their members lost its part
pub record KeepsKnown (old_parts new_parts : List MachinePart) (old new : Option WideData) : Type 0 where
  pub known : (wide : WideData) → new ≡ Some wide → (old ≡ Some wide) × ((k : ℕ) (part : MachinePart) (node : ℕ) → Stands old_parts k part →
      Contains (take part.members part.map.items) node → IsStorage wide.graph node → Stands new_parts k part)
  pub lost : (wide : WideData) → old ≡ Some wide → (new ≡ Some wide) ⊎ ((new ≡ None) × Loses wide.graph old_parts new_parts)

-- the same of two machines
abbrev pub KeepsHeld : MachineData → MachineData → Type 0
KeepsHeld old new = KeepsKnown old.parts new.parts old.wide new.wide

-- the part with this number loses its group, and all other parts stay
pub record Vacates (k : ℕ) (old new : MachineData) : Type 0 where
  pub part : MachinePart
  pub none : IsVacant part
  pub parts : new.parts ≡ slice_set old.parts k part
  pub uses : new.uses ≡ slice_set old.uses k None
  pub marks : new.marks ≡ old.marks
  pub wide : KeepsHeld old new
  pub rest : KeepsRest old new

-- a part for a group with these members comes behind the others, stale and marked
pub record Seats (members : List ℕ) (old new : MachineData) : Type 0 where
  pub part : MachinePart
  pub is_new : IsStalePartOf members part
  pub parts : new.parts ≡ old.parts ++ part ∷ []
  pub uses : (k : ℕ) → slice_index_or new.uses k None ≡ slice_index_or old.uses k None
  pub more_uses : length new.uses ≡ length old.uses + 1
  pub marks : new.marks ≡ old.marks ++ true ∷ []
  pub wide : new.wide ≡ old.wide
  pub rest : KeepsRest old new

-- no part has one of these nodes as a member any more: the parts that had one have no group, and all other parts stay
pub record Clears (nodes : List ℕ) (old new : MachineData) : Type 0 where
  pub was : (k : ℕ) (part : MachinePart) → Stands new.parts k part → 0 < part.members → Stands old.parts k part
  pub uses : (k : ℕ) (part : MachinePart) → Stands new.parts k part → 0 < part.members →
      slice_index_or new.uses k None ≡ slice_index_or old.uses k None
  pub stays : (k : ℕ) (part : MachinePart) → Stands old.parts k part → ((node : ℕ) → Contains nodes node → ¬ HasMember old.parts k node) → Stands new.parts k part
  pub none : (k node : ℕ) → Contains nodes node → ¬ HasMember new.parts k node
  pub tidy : IsTidy old → IsTidy new
  pub count : length new.parts ≡ length old.parts
  pub marks : new.marks ≡ old.marks
  pub wide : KeepsHeld old new
  pub rest : KeepsRest old new

-- a group has a stale part with these members, which is marked and has no text; a part that had one of them has no group, and all other parts stay
pub record Renews (members : List ℕ) (old new : MachineData) : Type 0 where
  pub was : (k : ℕ) (part : MachinePart) → Stands new.parts k part → 0 < part.members →
      Stands old.parts k part ⊎ ((k ≡ length old.parts) × IsStalePartOf members part)
  pub uses : (k : ℕ) (part : MachinePart) → Stands new.parts k part → k < length old.parts → 0 < part.members →
      slice_index_or new.uses k None ≡ slice_index_or old.uses k None
  pub untold : IsTidy old → (k : ℕ) → length old.parts ≤ k → slice_index_or new.uses k None ≡ None
  pub marks : (k : ℕ) → k < length old.parts → IsMarked new.marks k ↔ IsMarked old.marks k
  pub stays : (k : ℕ) (part : MachinePart) → Stands old.parts k part → ((node : ℕ) → Contains members node → ¬ HasMember old.parts k node) → Stands new.parts k part
  pub k : ℕ
  pub part : MachinePart
  pub stands : Stands new.parts k part
  pub is_new : IsStalePartOf members part
  pub count : length old.parts ≤ length new.parts
  pub tidy : IsTidy old → IsTidy new
  pub wide : KeepsHeld old new
  pub rest : KeepsRest old new

-- one of these nodes is a member of the group
pub record HasAny (nodes : List ℕ) (group : Group) : Type 0 where
  pub node : ℕ
  pub among : Contains nodes node
  pub member : Contains group.members node

-- the node is a member of one of these groups that has one of the nodes
pub record IsWithAny (groups : List Group) (nodes : List ℕ) (node : ℕ) : Type 0 where
  pub group : Group
  pub there : Contains groups group
  pub has : HasAny nodes group
  pub member : Contains group.members node

-- these are the groups of some graph
abbrev pub AreOfSome : List Group → Type 0
AreOfSome groups = (g : GraphData) × AreGroups g groups

-- the members of a group, if there is one
abbrev pub members_in : Option Group → List ℕ
members_in None = []
members_in (Some group) = group.members

-- some part is a stale part with these members
pub record HasStale (members : List ℕ) (parts : List MachinePart) : Type 0 where
  pub k : ℕ
  pub part : MachinePart
  pub stands : Stands parts k part
  pub is_new : IsStalePartOf members part

-- the part is a new stale part of one of the groups that have one of these nodes
pub record IsNew (groups : List Group) (nodes : List ℕ) (part : MachinePart) : Type 0 where
  pub group : Group
  pub there : Contains groups group
  pub has : HasAny nodes group
  pub is_new : IsStalePartOf group.members part

-- each of these groups that has one of these nodes has a new stale part, without a text; the parts that have no members of such groups stay, and no
-- other part has members
pub record RenewsAll (all : List Group) (nodes : List ℕ) (old new : MachineData) : Type 0 where
  pub was : (k : ℕ) (part : MachinePart) → Stands new.parts k part → 0 < part.members →
      Stands old.parts k part ⊎ ((length old.parts ≤ k) × IsNew all nodes part)
  pub uses : (k : ℕ) (part : MachinePart) → Stands new.parts k part → k < length old.parts → 0 < part.members →
      slice_index_or new.uses k None ≡ slice_index_or old.uses k None
  pub untold : IsTidy old → (k : ℕ) (part : MachinePart) → Stands new.parts k part → length old.parts ≤ k → 0 < part.members →
      slice_index_or new.uses k None ≡ None
  pub marks : (k : ℕ) → k < length old.parts → IsMarked new.marks k ↔ IsMarked old.marks k
  pub stays : (k : ℕ) (part : MachinePart) → Stands old.parts k part →
      ((group : Group) (node : ℕ) → Contains all group → HasAny nodes group → Contains group.members node → ¬ HasMember old.parts k node) →
      Stands new.parts k part
  pub has : (group : Group) → Contains all group → HasAny nodes group → HasStale group.members new.parts
  pub count : length old.parts ≤ length new.parts
  pub tidy : IsTidy old → IsTidy new
  pub wide : KeepsHeld old new
  pub rest : KeepsRest old new

-- if a part has the node as a member, or no group has, nothing changes; else the node's group has a new stale part
abbrev pub RenewsAt : List Group → ℕ → MachineData → MachineData → Type 0
RenewsAt groups node old new =
    ((new ≡ old) × (((k : ℕ) × HasMember old.parts k node) ⊎ ((group : Group) → Contains groups group → ¬ Contains group.members node)))
    ⊎ (((k : ℕ) → ¬ HasMember old.parts k node) × ((group : Group) × Contains groups group × Contains group.members node × Renews group.members old new))
