-- The groups that were found so far.
use Rattle.std.specs.Prelude.{ℕ, ◌+◌, ◌*◌, ◌≤◌, ◌⊎◌, Bool, nat_lt, ◌&&◌, List, length, map, filter, nat_eq, Contains}
use Rattle.std.specs.List.{IsDistinct, sum_by}
use Rattle.switch_paths.specs.Graphs.{GraphData, nodes, level_of, is_storage_level, IsStorage}
use Rattle.group_meaning.specs.Groups.{Group, id_of, IsGroup, AreGroups}

-- what was found are groups, none of them twice, and what was seen are their members
pub record AreFound (g : GraphData) (seen : List ℕ) (fresh : List Group) : Type 0 where
  pub each : (group : Group) → Contains fresh group → IsGroup g group
  pub all : (group : Group) (node : ℕ) → Contains fresh group → Contains group.members node → Contains seen node
  pub only : (node : ℕ) → Contains seen node → (group : Group) × Contains fresh group × Contains group.members node
  pub apart : IsDistinct nat_eq (map id_of fresh)
  pub once : IsDistinct nat_eq seen

-- what was seen is seen still, and each root that is a storage node was seen
pub record Finds (g : GraphData) (roots old new : List ℕ) : Type 0 where
  pub kept : (node : ℕ) → Contains old node → Contains new node
  pub rooted : (node : ℕ) → Contains roots node → IsStorage g node → Contains new node

-- these nodes are noted beside those that were
pub record Notes (nodes old new : List ℕ) : Type 0 where
  pub kept : (node : ℕ) → Contains old node → Contains new node
  pub noted : (node : ℕ) → Contains nodes node → Contains new node
  pub only : (node : ℕ) → Contains new node → Contains old node ⊎ Contains nodes node

-- the number is that of a storage node
abbrev pub is_storage : GraphData → ℕ → Bool
is_storage g node = nat_lt node (nodes g) && is_storage_level (level_of g node)

-- what a search has ticked for the groups that it found: three times each member, and twice each switch
abbrev pub search_cost : List Group → ℕ
search_cost fresh = sum_by (λ group. 3 * length group.members + 2 * length group.switches) fresh

-- each group that came in has one of these roots as a member
pub record AreFoundFrom (roots : List ℕ) (old new : List Group) : Type 0 where
  pub from : (group : Group) → Contains new group → Contains old group ⊎ ((n : ℕ) × Contains roots n × Contains group.members n)

-- the search from a root that is a storage node and wasn't seen has ended early: there are no more steps than for its whole group
pub record IsCutShort (g : GraphData) (root : ℕ) (seen : List ℕ) (start end : ℕ) : Type 0 where
  pub storage : IsStorage g root
  pub unseen : ¬ Contains seen root
  pub paid : (group : Group) → IsGroup g group → Contains group.members root → end ≤ start + 1 + 3 * length group.members + 2 * length group.switches

-- the groups that a search had looked through, or was looking through, when it ended early: none twice, each an old one or one with a root
pub record AreLooked (g : GraphData) (roots : List ℕ) (old : List Group) (start end : ℕ) (looked : List Group) : Type 0 where
  pub each : (group : Group) → Contains looked group → IsGroup g group
  pub apart : IsDistinct nat_eq (map id_of looked)
  pub from : AreFoundFrom roots old looked
  pub steps : end + search_cost old ≤ start + length (filter (is_storage g) roots) + search_cost looked

-- such groups pay for all steps, since each storage node is in a group
pub record ArePaid (g : GraphData) (roots : List ℕ) (old : List Group) (start end : ℕ) : Type 0 where
  pub paid : (groups : List Group) → AreGroups g groups → (looked : List Group) × AreLooked g roots old start end looked
