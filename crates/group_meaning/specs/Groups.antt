-- Channel-connected groups: the classes of storage nodes that switches join through storage nodes alone.
-- After Bryant, Beatty, Brace, Cho and Sheffler, "COSMOS: A Compiled Simulator for MOS Circuits", 1987.
use Rattle.std.specs.Prelude.{◌≡◌, ℕ, ◌<◌, ◌↔◌, ◌⊎◌, List, [], ◌∷◌, length, map, slice_index, All, Any, Contains, Some}
use Rattle.std.specs.List.Sorted.{IsStrictlyIncreasing}
use Rattle.switch_paths.specs.declared.switching.Switch.{Switch}
use Rattle.switch_paths.specs.Graphs.{GraphData, IsStorage, place_at}
use Rattle.switch_paths.specs.Path.{Joins}

-- the switch at a place has one end at each of the two nodes, whatever its state
pub record AreJoined (g : GraphData) (place m n : ℕ) : Type 0 where
  pub switch : Switch
  pub at_place : place_at g.places place ≡ Some switch
  pub joins : Joins switch m n

-- the switches at these places lead from m to n, end to end, and each node on the way is a storage node
abbrev pub LinksOver : GraphData → List ℕ → ℕ → ℕ → Type 0
LinksOver g [] m n = IsStorage g m × (m ≡ n)
LinksOver g (place ∷ places) m n = IsStorage g m × ((next : ℕ) × AreJoined g place m next × LinksOver g places next n)

-- two storage nodes are linked where such a list of switches leads from one to the other, and each with itself
pub record AreLinked (g : GraphData) (m n : ℕ) : Type 0 where
  pub places : List ℕ
  pub links : LinksOver g places m n

-- a group as contracts see it: its members, and the places of its switches
pub record Group : Type 0 where
  pub members : List ℕ
  pub switches : List ℕ

-- a group is named by its least node, which is its first member
abbrev pub id_of : Group → ℕ
id_of group = slice_index group.members 0

-- the switch at a place has one of these nodes at an end
pub record TouchesAny (g : GraphData) (members : List ℕ) (place : ℕ) : Type 0 where
  pub switch : Switch
  pub at_place : place_at g.places place ≡ Some switch
  pub touches : Contains members switch.a ⊎ Contains members switch.b

-- a group is one class of linked storage nodes, with all switches that have a member at an end; nodes and places ascend
pub record IsGroup (g : GraphData) (group : Group) : Type 0 where
  pub some : 0 < length group.members
  pub class : (node : ℕ) → Contains group.members node ↔ AreLinked g (id_of group) node
  pub ascending : IsStrictlyIncreasing group.members
  pub switches : (place : ℕ) → Contains group.switches place ↔ TouchesAny g group.members place
  pub switches_ascending : IsStrictlyIncreasing group.switches

-- the groups of a graph: each storage node is in one, and they stand in order of their least nodes
pub record AreGroups (g : GraphData) (groups : List Group) : Type 0 where
  pub each : All (IsGroup g) groups
  pub whole : (node : ℕ) → IsStorage g node → Any (λ group. Contains group.members node) groups
  pub ascending : IsStrictlyIncreasing (map id_of groups)
