-- The nodes that are near the parts that are apart: a change of any other node is taken over, and stirs nothing.
use Rattle.std.specs.Prelude.{◌≡◌, ℕ, ◌<◌, ◌≤◌, ◌⊎◌, ◌↔◌, ◌++◌, ◌/◌, ◌∷◌, [], Bool, true, nat_le, List, length, take, drop, vec_capacity, Contains, Option, None, Some, slice_index, slice_index_or}
use Rattle.part_words.specs.declared.change.Change.{Change}
use Rattle.machine_parts.specs.declared.part.MachinePart.{MachinePart}
use Rattle.machine_parts.specs.Marking.{IsMarked, MarksAll}
use Rattle.machine_parts.specs.Parts.{Stands}
use Rattle.vicinity.specs.NodeSets.{IsIn, NodeSetData}
use Rattle.run_beside.specs.declared.near.TheConstants.{PARTS_A_CHANGE}
use Rattle.run_beside.specs.declared.near.Near.{Near}
use Rattle.run_beside.specs.declared.near.NearSpan.{NearSpan}

-- the node is a member of the part, or the part reads it
abbrev pub IsOfPart : MachinePart → ℕ → Type 0
IsOfPart part node = Contains (take part.members part.map.items) node ⊎ Contains part.reads.items node

-- the node is of one of the parts with these numbers
pub record IsOfAny (parts : List MachinePart) (these : List ℕ) (node : ℕ) : Type 0 where
  pub k : ℕ
  pub among : Contains these k
  pub part : MachinePart
  pub stands : Stands parts k part
  pub of : IsOfPart part node

-- a node is near some parts: it has no owner, or is of one of them
abbrev pub IsNearTo : List MachinePart → List (Option ℕ) → List ℕ → ℕ → Type 0
IsNearTo parts owners these node = (slice_index_or owners node None ≡ None) ⊎ IsOfAny parts these node

-- how many nodes were near before the part at this place entered
abbrev pub start_at : Near → ℕ → ℕ
start_at near place = slice_index near.starts.items place

-- the first nodes, so many, are those that were near before the part at this place entered
pub record IsStart (parts : List MachinePart) (owners : List (Option ℕ)) (near : Near) (place : ℕ) : Type 0 where
  pub most : start_at near place ≤ length near.nodes.list
  pub all : (node : ℕ) → node < length owners →
      Contains (take (start_at near place) near.nodes.list) node ↔ IsNearTo parts owners (take place near.parts.items) node

-- the nodes are those that are near the parts that entered, and so are the first ones those near the first parts; there is room for all parts
pub record AreNear (parts : List MachinePart) (owners : List (Option ℕ)) (near : Near) : Type 0 where
  pub counted : length near.nodes.inside ≡ length owners
  pub started : length near.starts.items ≡ length near.parts.items
  pub room : length parts ≤ vec_capacity near.parts
  pub start_room : length parts ≤ vec_capacity near.starts
  pub all : (node : ℕ) → node < length owners → IsIn near.nodes.inside node ↔ IsNearTo parts owners near.parts.items node
  pub starts : (place : ℕ) → place < length near.parts.items → IsStart parts owners near place
  pub order : (i j : ℕ) → i < j → j < length near.parts.items → start_at near i ≤ start_at near j

-- the same, if they are known
abbrev pub AreNearIn : List MachinePart → List (Option ℕ) → Option Near → Type 0
AreNearIn parts owners None = Unit {0}
AreNearIn parts owners (Some near) = AreNear parts owners near

-- a node is known to be far from the parts that are apart
abbrev pub IsFar : Option Near → ℕ → Type 0
IsFar None node = ⊥
IsFar (Some near) node = (near.is_current ≡ true) × (¬ IsIn near.nodes.inside node)

-- the node has a flag, and it is unset
abbrev pub IsOut : List Bool → ℕ → Type 0
IsOut flags node = (node < length flags) × (¬ IsMarked flags node)

-- there is a mark for each part among those that are apart, room for all parts, and a mark for each node that is of one
pub record FitsParts (parts : List MachinePart) (apart : List Bool) (near : Near) : Type 0 where
  pub counted : length apart ≡ length parts
  pub started : length near.starts.items ≡ length near.parts.items
  pub room : length parts ≤ vec_capacity near.parts
  pub start_room : length parts ≤ vec_capacity near.starts
  pub members : (k : ℕ) (part : MachinePart) → Stands parts k part → part.members ≤ length part.map.items
  pub inside : (k : ℕ) (part : MachinePart) → Stands parts k part → (node : ℕ) → IsOfPart part node → node < length near.nodes.inside

-- it is current if there are few parts apart for so many changes, and then its parts are those that are apart
pub record TellsOf (changes : List Change) (apart : NodeSetData) (near : Near) : Type 0 where
  pub current : near.is_current ≡ nat_le (length apart.list / PARTS_A_CHANGE) (length changes)
  pub parts : near.is_current ≡ true → (k : ℕ) → Contains near.parts.items k ↔ IsIn apart.inside k

-- the part with this number enters, and with it its nodes
pub record Enters (part : MachinePart) (k : ℕ) (old new : Near) : Type 0 where
  pub listed : (node : ℕ) → IsIn old.nodes.inside node → Contains old.nodes.list node
  pub only : (node : ℕ) → Contains old.nodes.list node → IsIn old.nodes.inside node
  pub nodes : MarksAll (IsOfPart part) old.nodes.inside new.nodes.inside
  pub list : (more : List ℕ) × (new.nodes.list ≡ old.nodes.list ++ more)
  pub parts : new.parts.items ≡ old.parts.items ++ k ∷ []
  pub starts : new.starts.items ≡ old.starts.items ++ length old.nodes.list ∷ []
  pub room : vec_capacity new.parts ≡ vec_capacity old.parts
  pub start_room : vec_capacity new.starts ≡ vec_capacity old.starts
  pub current : new.is_current ≡ old.is_current

-- only the first are in the set still, so many
pub record IsCut (count : ℕ) (old new : NodeSetData) : Type 0 where
  pub counted : length new.inside ≡ length old.inside
  pub list : new.list ≡ take count old.list
  pub listed : (node : ℕ) → IsIn new.inside node → Contains new.list node
  pub only : (node : ℕ) → Contains new.list node → IsIn new.inside node

-- only the first parts stay, so many
pub record StayFirst (first : ℕ) (old new : Near) : Type 0 where
  pub parts : new.parts.items ≡ take first old.parts.items
  pub starts : new.starts.items ≡ take first old.starts.items
  pub counted : length new.nodes.inside ≡ length old.nodes.inside
  pub room : vec_capacity new.parts ≡ vec_capacity old.parts
  pub start_room : vec_capacity new.starts ≡ vec_capacity old.starts
  pub current : new.is_current ≡ old.is_current

-- of these changes each outside the span is of a node that has a flag, which is unset
pub record HasNear (flags : List Bool) (changes : List Change) (span : NearSpan) : Type 0 where
  pub ordered : span.first ≤ span.end
  pub inside : span.end ≤ length changes
  pub before : (change : Change) → Contains (take span.first changes) change → IsOut flags change.node
  pub behind : (change : Change) → Contains (drop span.end changes) change → IsOut flags change.node
