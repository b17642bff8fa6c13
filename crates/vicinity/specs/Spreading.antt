-- Tables while they spread: what a node's entry brings to others, which nodes are left to look from, and what that still costs.
use Rattle.std.specs.Prelude.{◌≡◌, ◌≢◌, ℕ, zero, suc, ◌+◌, ◌-◌, ◌*◌, ◌<◌, ◌≤◌, ◌⊎◌, min, Bool, true, false, if◌then◌else◌, List, length, Contains, slice_index, slice_index_or, Some}
use Rattle.vicinity.specs.Lists.{LiveListData, places_of}
use Rattle.ternary.specs.declared.tern.Tern.{Tern}
use Rattle.switch_paths.specs.declared.switching.Switch.{Switch}
use Rattle.switch_paths.specs.Switching.{switch_state_at}
use Rattle.switch_paths.specs.Graphs.{GraphData, nodes, place_at}
use Rattle.switch_paths.specs.Path.{Joins}
use Rattle.vicinity.specs.declared.pass.Pass.{Pass}
use Rattle.vicinity.specs.declared.pass.Sweep.{Sweep}
use Rattle.vicinity.specs.Arms.{ListsLive}
use Rattle.vicinity.specs.NodeSets.{IsIn}
use Rattle.vicinity.specs.Entries.{crosses, HasAbove, IsFloorAt, AreWays, IsWay, HasSources}

-- what a pass goes by is of one graph, and the floor is one for each node that is awake
pub record IsSweep (sweep : Sweep) : Type 0 where
  pub states : length sweep.state.now ≡ nodes sweep.graph.now
  pub lists : ListsLive sweep.graph.now sweep.state.now sweep.lists.now
  pub awake : length sweep.awake.now.inside ≡ nodes sweep.graph.now
  pub floors : length sweep.floor.now ≡ nodes sweep.graph.now
  pub floor : (node : ℕ) → IsIn sweep.awake.now.inside node → IsFloorAt sweep.pass sweep.graph.now sweep.state.now node (slice_index sweep.floor.now node)

-- each entry of a node that is awake is what some path brings, and no other node is left to look from
pub record GoesOn (sweep : Sweep) (left : List Bool) (table : List ℕ) : Type 0 where
  pub lefts : length left ≡ nodes sweep.graph.now
  pub entries : length table ≡ nodes sweep.graph.now
  pub ways : AreWays sweep.pass sweep.graph.now sweep.state.now sweep.awake.now.inside table
  pub within : (node : ℕ) → IsIn left node → IsIn sweep.awake.now.inside node

-- entries rose, each to what some path brings, and each node whose entry rose is left to look from
pub record Raises (pass : Pass) (g : GraphData) (state : List Tern) (inside : List Bool) (old_left new_left : List Bool) (old new : List ℕ) : Type 0 where
  pub count : length new ≡ length old
  pub left_count : length new_left ≡ length old_left
  pub grows : (node : ℕ) → slice_index old node ≤ slice_index new node
  pub ways : AreWays pass g state inside new
  pub stays : (node : ℕ) → IsIn old_left node → IsIn new_left node
  pub within : (node : ℕ) → IsIn new_left node → IsIn inside node
  pub same : (node : ℕ) → IsIn new_left node ⊎ (slice_index new node ≡ slice_index old node)

-- the entry is what some path brings, and has what the node starts with
pub record IsStarted (pass : Pass) (g : GraphData) (state : List Tern) (floor table : List ℕ) (node : ℕ) : Type 0 where
  pub way : 0 < slice_index table node → IsWay pass g state node (slice_index table node)
  pub sources : HasSources pass g state node (slice_index floor node) (slice_index table node)

-- the node starts, and is left to look from if it has something to bring; all other entries stay
pub record Starts (pass : Pass) (g : GraphData) (state : List Tern) (floor : List ℕ) (node : ℕ) (old_left new_left : List Bool) (old new : List ℕ) :
    Type 0 where
  pub count : length new ≡ length old
  pub left_count : length new_left ≡ length old_left
  pub started : IsStarted pass g state floor new node
  pub others : (n : ℕ) → n ≢ node → slice_index new n ≡ slice_index old n
  pub left : IsIn new_left node ⊎ (slice_index new node ≡ 0)
  pub stays : (n : ℕ) → IsIn old_left n → IsIn new_left n
  pub only : (n : ℕ) → IsIn new_left n → IsIn old_left n ⊎ (n ≡ node)

-- these nodes have started
pub record AreStarted (pass : Pass) (g : GraphData) (state : List Tern) (floor : List ℕ) (started : List ℕ) (left : List Bool) (table : List ℕ) : Type 0 where
  pub each : (node : ℕ) → Contains started node → IsStarted pass g state floor table node
  pub lefts : (node : ℕ) → Contains started node → IsIn left node ⊎ (slice_index table node ≡ 0)
  pub only : (node : ℕ) → IsIn left node → Contains started node

-- of a strength at the one node nothing more comes over this place to the other nodes of the set
abbrev pub IsSpreadOver : Pass → GraphData → List Tern → List Bool → List ℕ → List ℕ → ℕ → ℕ → ℕ → Type 0
IsSpreadOver pass g state inside floor table from strength place =
    (to : ℕ) (switch : Switch) → place_at g.places place ≡ Some switch → Joins switch from to → IsIn inside to →
    crosses pass (switch_state_at state switch) ≡ true → HasAbove (slice_index floor to) (slice_index table to) (min strength switch.level)

-- the sum over the first numbers, so many of them
abbrev pub sum_below : (ℕ → ℕ) → ℕ → ℕ
sum_below f zero = 0
sum_below f (suc n) = f n + sum_below f n

-- how often a node may be looked from yet: once for each level by which its entry can rise, and once if it is left to look from
abbrev pub looks : ℕ → Bool → ℕ
looks entry left = 16 - entry + (if left then 1 else 0)

-- what it costs to look from a node once: one step, and one for each place at it
abbrev pub cost_at : List LiveListData → ℕ → ℕ
cost_at lists node = 1 + length (places_of lists node)

-- what it costs to look from each node of the set once
abbrev pub size_of : List LiveListData → List Bool → ℕ
size_of lists inside = sum_below (λ node. if slice_index_or inside node false then cost_at lists node else 0) (length inside)

-- what the spreading may cost yet
abbrev pub owed : List LiveListData → List Bool → List ℕ → List Bool → ℕ
owed lists inside table left =
    sum_below (λ node. if slice_index_or inside node false then cost_at lists node * looks (slice_index table node) (slice_index_or left node false) else 0)
    (length inside)
