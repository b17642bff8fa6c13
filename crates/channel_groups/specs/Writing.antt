-- How groups are taken out and put in.
use Rattle.std.specs.Prelude.{◌≡◌, ◌≢◌, ℕ, ◌+◌, ◌*◌, ◌<◌, ◌⊎◌, ◌≤◌, List, length, All, Contains, option_map, Option, Some, None, nat_eq}
use Rattle.std.specs.List.{sum_by, IsDistinct}
use Rattle.group_meaning.specs.Groups.{Group, id_of, AreGroups}
use Rattle.smallvec.specs.SmallVec.{SmallVec}
use Rattle.switch_paths.specs.Graphs.{GraphData, nodes, IsStorage}
use Rattle.channel_groups.specs.declared.change.Change.{Change}
use Rattle.channel_groups.specs.Listing.{places_of, HasRoomAt}
use Rattle.channel_groups.specs.Search.{AreFound}
use Rattle.channel_groups.specs.Changes.{nodes_before, nodes_after, switch_after, touched_size}
use Rattle.channel_groups.specs.Grouping.{class_at, slot_at, group_at_node}

-- these nodes lose what stands at them, and at all others it stays
pub record Clears (X : Type 0) (nodes : List ℕ) (at_old at_new : ℕ → Option X) : Type 0 where
  pub gone : (node : ℕ) → Contains nodes node → at_new node ≡ None
  pub stays : (node : ℕ) → ¬ Contains nodes node → at_new node ≡ at_old node

-- groups that share a member are one
abbrev pub AreApart : List Group → Type 0
AreApart groups =
    (one two : Group) (node : ℕ) → Contains groups one → Contains groups two → Contains one.members node → Contains two.members node → one ≡ two

-- these groups are put in, and at all nodes that are no member of them all stays
pub record Puts (groups : List Group) (classes more : List (Option ℕ)) (slots filled : List (Option Group)) : Type 0 where
  pub class : (group : Group) (node : ℕ) → Contains groups group → Contains group.members node → class_at more node ≡ Some (id_of group)
  pub class_stays : (node : ℕ) → ((group : Group) → Contains groups group → ¬ Contains group.members node) → class_at more node ≡ class_at classes node
  pub slot : (group : Group) → Contains groups group → slot_at filled (id_of group) ≡ Some group
  pub slot_stays : (node : ℕ) → ((group : Group) → Contains groups group → id_of group ≢ node) → slot_at filled node ≡ slot_at slots node
  pub classes_count : length more ≡ length classes
  pub slots_count : length filled ≡ length slots

-- these nodes get this class, and all others keep theirs
pub record Marks (members : List ℕ) (id : ℕ) (classes more : List (Option ℕ)) : Type 0 where
  pub count : length more ≡ length classes
  pub marked : (node : ℕ) → Contains members node → class_at more node ≡ Some id
  pub stays : (node : ℕ) → ¬ Contains members node → class_at more node ≡ class_at classes node

-- the members are below this count, and there is one
pub record AreInside (count : ℕ) (group : Group) : Type 0 where
  pub some : 0 < length group.members
  pub below : All (λ node. node < count) group.members

-- the nodes of the groups that have one of these changed nodes as a member
pub record AreTouched (classes : List (Option ℕ)) (slots : List (Option Group)) (before gone : List ℕ) : Type 0 where
  pub all : (id m n : ℕ) (group : Group) → slot_at slots id ≡ Some group → Contains group.members m → Contains before m →
      Contains group.members n → Contains gone n
  pub only : (n : ℕ) → Contains gone n → (id : ℕ) × (m : ℕ) × (group : Group) × (slot_at slots id ≡ Some group) × Contains group.members m
      × Contains before m × Contains group.members n

-- the members of a group, if there is one, are noted beside the nodes that were
pub record AddsGroup (group : Option Group) (old new : List ℕ) : Type 0 where
  pub kept : (n : ℕ) → Contains old n → Contains new n
  pub added : (one : Group) (n : ℕ) → group ≡ Some one → Contains one.members n → Contains new n
  pub only : (n : ℕ) → Contains new n → Contains old n ⊎ ((one : Group) × (group ≡ Some one) × Contains one.members n)

-- how many members a group has, if there is one
abbrev pub members_in : Option Group → ℕ
members_in None = 0
members_in (Some group) = length group.members

-- the same groups, held with more room
pub record SameHeld (classes more : List (Option ℕ)) (slots filled : List (Option Group)) : Type 0 where
  pub class : (n : ℕ) → class_at more n ≡ class_at classes n
  pub slot : (n : ℕ) → slot_at filled n ≡ slot_at slots n
  pub counted : length more ≤ length filled
  pub longer : length classes ≤ length more

-- the same lists of places, with more room
pub record SameEnds (firsts more seconds others : List (SmallVec ℕ)) : Type 0 where
  pub first : (n : ℕ) → places_of more n ≡ places_of firsts n
  pub second : (n : ℕ) → places_of others n ≡ places_of seconds n
  pub firsts_longer : length firsts ≤ length more
  pub seconds_longer : length seconds ≤ length others

-- there is room for the nodes of the graph, and for the changed place at the ends of its present switch
pub record IsRoomy (g : GraphData) (change : Change) (classes : List (Option ℕ)) (firsts seconds : List (SmallVec ℕ)) : Type 0 where
  pub classes_in : nodes g ≤ length classes
  pub firsts_in : nodes g ≤ length firsts
  pub seconds_in : nodes g ≤ length seconds
  pub first : (n : ℕ) → option_map (λ switch. switch.a) (switch_after g change.place) ≡ Some n → HasRoomAt firsts n
  pub second : (n : ℕ) → option_map (λ switch. switch.b) (switch_after g change.place) ≡ Some n → HasRoomAt seconds n

-- what is to be taken out and put in after an edit: the members of the touched groups, and the groups that were found
-- from them and from the changed nodes
pub record IsPlan (g : GraphData) (change : Change) (classes : List (Option ℕ)) (slots : List (Option Group)) (gone seen : List ℕ) (fresh : List Group) : Type 0 where
  pub touched : AreTouched classes slots (nodes_before change) gone
  pub found : AreFound g seen fresh
  pub gone_rooted : (n : ℕ) → Contains gone n → IsStorage g n → Contains seen n
  pub new_rooted : (n : ℕ) → Contains (nodes_after g change) n → IsStorage g n → Contains seen n
  pub gone_once : IsDistinct nat_eq gone
  pub from : (group : Group) → Contains fresh group → (n : ℕ) × Contains group.members n × (Contains gone n ⊎ Contains (nodes_after g change) n)

-- what the members of the touched groups have ticked: the group of each changed node was looked through
abbrev pub before_cost : Change → List (Option ℕ) → List (Option Group) → ℕ
before_cost change classes slots = sum_by (λ node. members_in (group_at_node classes slots node)) (nodes_before change)

-- from start to end there are at most eight steps for each member and each switch of the touched groups, whichever list of
-- groups the graph has
pub record IsCheap (g : GraphData) (change : Change) (old : List Group) (start end : ℕ) : Type 0 where
  pub cheap : (found : List Group) → AreGroups g found → end ≤ start + 8 * touched_size g change old found
