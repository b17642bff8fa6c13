-- The groups of a graph as they are held, and how they are looked up.
use Rattle.std.specs.Prelude.{◌≡◌, ℕ, ◌<◌, ◌≤◌, ◌==◌, Bool, true, List, [], length, map, find, is_some, Contains, slice_index_or, Option, Some, None}
use Rattle.std.specs.Option.{option_and_then}
use Rattle.std.specs.List.{list_any, filter_map, range_with_len}
use Rattle.smallvec.specs.SmallVec.{SmallVec}
use Rattle.switch_paths.specs.Graphs.{GraphData, nodes}
use Rattle.group_meaning.specs.Groups.{Group, AreGroups, id_of}
use Rattle.channel_groups.specs.Listing.{AreListed, places_of}

-- the groups of a graph with so many nodes, and at each node the places whose switches have their first, and their second end there
pub record GroupsData : Type 0 where
  pub nodes : ℕ
  pub groups : List Group
  pub firsts : List (List ℕ)
  pub seconds : List (List ℕ)

-- the list at a node; past the last one there is none
abbrev pub list_at : List (List ℕ) → ℕ → List ℕ
list_at lists node = slice_index_or lists node []

-- the lists of so many nodes
abbrev pub first_lists : ℕ → List (SmallVec ℕ) → List (List ℕ)
first_lists nodes lists = map (places_of lists) (range_with_len 0 nodes)

-- these are the groups of the graph, with its count of nodes and its places at each node
pub record AreOf (g : GraphData) (found : GroupsData) : Type 0 where
  pub are : AreGroups g found.groups
  pub nodes : found.nodes ≡ nodes g
  pub firsts : AreListed (λ switch. switch.a) g None (list_at found.firsts)
  pub seconds : AreListed (λ switch. switch.b) g None (list_at found.seconds)

-- the group has the node as a member
abbrev pub has_member : ℕ → Group → Bool
has_member node group = list_any (λ member. member == node) group.members

-- the group with this id
abbrev pub group_with : List Group → ℕ → Option Group
group_with groups id = find (λ group. id_of group == id) groups

-- the id is that of one of the groups
abbrev pub IsId : List Group → ℕ → Type 0
IsId groups id = is_some (group_with groups id) ≡ true

-- the least node of a node's group, if it is in one; past the last node there is none
abbrev pub class_at : List (Option ℕ) → ℕ → Option ℕ
class_at classes node = slice_index_or classes node None

-- the group whose least node this is
abbrev pub slot_at : List (Option Group) → ℕ → Option Group
slot_at slots node = slice_index_or slots node None

-- the groups in the order of their least nodes
abbrev pub held : List (Option Group) → List Group
held slots = filter_map (λ slot. slot) slots

-- each group stands at its least node, and its members, and no other nodes, have that node as their class
pub record IsHeld (classes : List (Option ℕ)) (slots : List (Option Group)) : Type 0 where
  pub own : (id : ℕ) (group : Group) → slot_at slots id ≡ Some group → (id_of group ≡ id) × (0 < length group.members)
  pub class : (id node : ℕ) (group : Group) → slot_at slots id ≡ Some group → Contains group.members node → class_at classes node ≡ Some id
  pub member : (node id : ℕ) → class_at classes node ≡ Some id → (group : Group) × (slot_at slots id ≡ Some group) × Contains group.members node

-- the group that has the node as a member, by its class
abbrev pub group_at_node : List (Option ℕ) → List (Option Group) → ℕ → Option Group
group_at_node classes slots node = option_and_then (slot_at slots) (class_at classes node)

-- groups are stored for so many nodes: the lists may be longer, with nothing past the last node
pub record AreStored (nodes : ℕ) (classes : List (Option ℕ)) (slots : List (Option Group)) (firsts seconds : List (SmallVec ℕ)) : Type 0 where
  pub held : IsHeld classes slots
  pub counted : length classes ≤ length slots
  pub nodes_in : nodes ≤ length classes
  pub firsts_past : (n : ℕ) → nodes ≤ n → places_of firsts n ≡ []
  pub seconds_past : (n : ℕ) → nodes ≤ n → places_of seconds n ≡ []
