-- A graph before one edit, and which groups the edit touches.
use Rattle.std.specs.Prelude.{◌≡◌, ℕ, ◌+◌, ◌-◌, ◌==◌, ◌<◌, ◌⊎◌, Contains, Bool, ◌||◌, List, [], ◌∷◌, ◌++◌, length, filter, take, Option, Some, None, slice_set, option_map, false}
use Rattle.std.specs.List.{list_any, range_with_len, sum_by}
use Rattle.switch_paths.specs.declared.switching.Switch.{Switch}
use Rattle.switch_paths.specs.Graphs.{GraphData, nodes, level_of, place_at}
use Rattle.group_meaning.specs.Groups.{Group, AreJoined}
use Rattle.channel_groups.specs.declared.change.Change.{Change}

-- the places with what the changed one held
abbrev pub with_place : Option (ℕ × Option Switch) → List (Option Switch) → List (Option Switch)
with_place None places = places
with_place (Some old) places = slice_set places old.0 old.1

-- the levels with that of the changed node
abbrev pub with_level : Option (ℕ × ℕ) → List ℕ → List ℕ
with_level None levels = levels
with_level (Some old) levels = slice_set levels old.0 old.1

-- the graph before the edit
abbrev pub undo : GraphData → Change → GraphData
undo g change = record {
  levels = with_level change.level (take change.nodes g.levels);
  places = with_place change.place g.places;
}

-- the nodes at the ends of what stands at a place
abbrev pub ends_of : Option Switch → List ℕ
ends_of None = []
ends_of (Some switch) = switch.a ∷ switch.b ∷ []

-- the ends of the changed place's old switch, and those of its present one
abbrev pub ends_before : Option (ℕ × Option Switch) → List ℕ
ends_before None = []
ends_before (Some old) = ends_of old.1

abbrev pub ends_after : GraphData → Option (ℕ × Option Switch) → List ℕ
ends_after g None = []
ends_after g (Some old) = ends_of (place_at g.places old.0)

-- what the changed place holds now
abbrev pub switch_after : GraphData → Option (ℕ × Option Switch) → Option Switch
switch_after g None = None
switch_after g (Some old) = place_at g.places old.0

-- the place that is changed, and the node whose level is
abbrev pub changed_place : Change → Option ℕ
changed_place change = option_map (λ old. old.0) change.place

abbrev pub levelled : Option (ℕ × ℕ) → List ℕ
levelled None = []
levelled (Some old) = old.0 ∷ []

-- the nodes that the edit changed, as the graph was before it
abbrev pub nodes_before : Change → List ℕ
nodes_before change = ends_before change.place ++ levelled change.level

-- and as it is now, the new nodes among them
abbrev pub nodes_after : GraphData → Change → List ℕ
nodes_after g change =
    ends_after g change.place ++ (levelled change.level ++ range_with_len change.nodes (nodes g - change.nodes))

-- the node is one of these
abbrev pub is_among : List ℕ → ℕ → Bool
is_among xs node = list_any (λ x. x == node) xs

-- an old group is touched if it has a node as a member that the edit changed
abbrev pub is_touched : Change → Group → Bool
is_touched change group = list_any (is_among (nodes_before change)) group.members

-- the node is a member of one of these groups
abbrev pub in_some : List Group → ℕ → Bool
in_some groups node = list_any (λ group. is_among group.members node) groups

-- a new group is touched if it has as a member a node that the edit changed, or some member of a touched old group
abbrev pub is_touched_now : GraphData → Change → List Group → Group → Bool
is_touched_now g change old group =
    list_any (λ node. is_among (nodes_after g change) node || in_some (filter (is_touched change) old) node) group.members

-- the members and the switches of a group, counted
abbrev pub size_of : Group → ℕ
size_of group = length group.members + length group.switches

-- the members and the switches of all touched groups, old and new
abbrev pub touched_size : GraphData → Change → List Group → List Group → ℕ
touched_size g change old new =
    sum_by size_of (filter (is_touched change) old) + sum_by size_of (filter (is_touched_now g change old) new)

-- the graphs differ at changed nodes alone: what stands at the place between two nodes stands there in the other graph
-- too, or both nodes are changed; and a node is one of the other graph, with its level, or is changed
pub record DifferAt (g h : GraphData) (before after : List ℕ) : Type 0 where
  pub joined : (place m n : ℕ) → AreJoined g place m n →
      (place_at h.places place ≡ place_at g.places place) ⊎ (Contains before m × Contains before n)
  pub joined_back : (place m n : ℕ) → AreJoined h place m n →
      (place_at g.places place ≡ place_at h.places place) ⊎ (Contains after m × Contains after n)
  pub level : (node : ℕ) → node < nodes g →
      ((node < nodes h) × (level_of h node ≡ level_of g node)) ⊎ (Contains before node × Contains after node)
  pub level_back : (node : ℕ) → node < nodes h → ((node < nodes g) × (level_of g node ≡ level_of h node)) ⊎ Contains after node

-- the group was one before the edit too, and the edit didn't touch it: its switches stand where they stood, and its
-- members, and the nodes at the other ends of its switches, have the levels that they had
pub record IsKept (g : GraphData) (change : Change) (old : List Group) (group : Group) : Type 0 where
  pub was : Contains old group
  pub untouched : is_touched change group ≡ false
  pub places : (place : ℕ) → Contains group.switches place → place_at g.places place ≡ place_at (undo g change).places place
  pub members : (node : ℕ) → Contains group.members node → level_of g node ≡ level_of (undo g change) node
  pub ends : (place m n : ℕ) → Contains group.members m → AreJoined (undo g change) place m n → level_of g n ≡ level_of (undo g change) n
