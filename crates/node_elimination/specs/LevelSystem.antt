-- The system of one level: its unknowns are the members, the nodes below a number. What is known of the other nodes is
-- given.
use Rattle.std.specs.Prelude.{◌≡◌, ℕ, ◌+◌, ◌*◌, ◌<◌, ◌≤◌, ◌⊎◌, ◌↔◌, Bool, true, false, ◌&&◌, ◌||◌, ◌==◌, nat_le, List, ◌++◌, length, Some}
use Rattle.bool_pool.specs.declared.gate.Gate.{Gate}
use Rattle.bool_pool.specs.declared.gate.Id.{Id}
use Rattle.bool_pool.specs.Reach.{IsWithin}
use Rattle.bool_pool.specs.Value.{value_at}
use Rattle.switch_paths.specs.declared.switching.Switch.{Switch}
use Rattle.switch_paths.specs.Graphs.{GraphData, nodes, level_of, place_at}
use Rattle.switch_paths.specs.Path.{Joins}
use Rattle.node_elimination.specs.declared.level.Links.{Links}
use Rattle.node_elimination.specs.Solution.{Sol}
use Rattle.node_elimination.specs.Growth.{place_of, AreFormulas}
use Rattle.node_elimination.specs.Equations.{SystemData, is_left, edge, right}

-- one of these places passes and holds a switch of level at least s that joins m to n
pub record Link (g : GraphData) (pass : ℕ → Bool) (among : ℕ → Type 0) (s m n : ℕ) : Type 0 where
  pub place : ℕ
  pub is_among : among place
  pub switch : Switch
  pub stands : place_at g.places place ≡ Some switch
  pub passes : pass place ≡ true
  pub strong : s ≤ switch.level
  pub joins : Joins switch m n

-- such a place joins a node that is no member and is a source to n
pub record Fed (g : GraphData) (members : ℕ) (pass source : ℕ → Bool) (among : ℕ → Type 0) (s n : ℕ) : Type 0 where
  pub from : ℕ
  pub outside : members ≤ from
  pub in_range : from < nodes g
  pub is_source : source from ≡ true
  pub link : Link g pass among s from n

-- the value of a formula by its index
abbrev pub value_of : List Gate → List Id → (ℕ → Bool) → ℕ → Bool
value_of gates ids vars k = value_at gates vars (place_of ids k)

-- there is a gate for each member, a pass for each place and a source for each node, all of them formulas of the pool
pub record FitLinks (g : GraphData) (members : ℕ) (pool : List Gate) (gates passes sources : List Id) : Type 0 where
  pub within : members ≤ nodes g
  pub each_gate : members ≤ length gates
  pub each_pass : length g.places ≤ length passes
  pub each_source : nodes g ≤ length sources
  pub formulas : AreFormulas pool (gates ++ (passes ++ sources))

-- beside what there was, there is the edge from n to m where the gate of n and the pass are true, if both are members, and
-- the right side of n is true where the gate, the pass and the source m are, if m is no member
pub record AddsLink (members m n : ℕ) (gate pass source : (ℕ → Bool) → Bool) (before : List Gate) (old : SystemData)
    (after : List Gate) (new : SystemData) : Type 0 where
  pub edges : (vars : ℕ → Bool) (i j : ℕ) → i < members → j < members →
      (edge after new vars i j ≡ true)
      ↔ ((edge before old vars i j ≡ true) ⊎ ((i ≡ n) × (j ≡ m) × ((gate vars && pass vars) ≡ true)))
  pub rights : (vars : ℕ → Bool) (i : ℕ) → i < members →
      (right after new vars i ≡ true)
      ↔ ((right before old vars i ≡ true) ⊎ ((i ≡ n) × (members ≤ m) × ((gate vars && (pass vars && source vars)) ≡ true)))

-- beside what there was, there is an edge for each link over these places to a gated member, and the right side of each
-- gated member that is fed over them is true
pub record AddsLinks (g : GraphData) (members : ℕ) (among : ℕ → Type 0) (s : ℕ) (gates passes sources : List Id)
    (before : List Gate) (old : SystemData) (after : List Gate) (new : SystemData) : Type 0 where
  pub edges : (vars : ℕ → Bool) (i j : ℕ) → i < members → j < members →
      (edge after new vars i j ≡ true)
      ↔ ((edge before old vars i j ≡ true)
      ⊎ ((value_of before gates vars i ≡ true) × Link g (value_of before passes vars) among s j i))
  pub rights : (vars : ℕ → Bool) (i : ℕ) → i < members →
      (right after new vars i ≡ true)
      ↔ ((right before old vars i ≡ true)
      ⊎ ((value_of before gates vars i ≡ true) × Fed g members (value_of before passes vars) (value_of before sources vars)
      among s i))

-- all unknowns of the system are left
abbrev pub AllLeft : SystemData → Type 0
AllLeft system = (i : ℕ) → i < system.size → is_left system i ≡ true

-- no edge of the system is true, and all its unknowns are left
pub record IsFresh (gates : List Gate) (system : SystemData) : Type 0 where
  pub no_edges : (vars : ℕ → Bool) (i j : ℕ) → i < system.size → j < system.size → edge gates system vars i j ≡ false
  pub all_left : AllLeft system

-- the formula is one of the pool, and this constant
pub record IsConstant (b : Bool) (gates : List Gate) (id : Id) : Type 0 where
  pub inside : id.place < length gates
  pub value_is : (vars : ℕ → Bool) → value_at gates vars id.place ≡ b
  pub within : (listed : List ℕ) (bound : ℕ) → IsWithin gates listed bound id.place

-- the base of D(s): the node has a level of at least s
abbrev pub reached_base : GraphData → ℕ → ℕ → Bool
reached_base g s i = nat_le s (level_of g i)

-- the base of U(s) for a rail: U(s + 1), or the node is a clear root of level s that has the rail
abbrev pub driven_base : GraphData → ℕ → (ℕ → Bool) → (ℕ → Bool) → (ℕ → Bool) → ℕ → Bool
driven_base g s above clear rail i = above i || ((level_of g i == s) && (clear i && rail i))

-- a place of the graph
abbrev pub IsPlace : GraphData → ℕ → Type 0
IsPlace g place = place < length g.places

-- the system of a level: an edge leads from a gated member to each member that is linked to it, and its right side is true
-- if its base is, or where it is fed
pub record IsLevelSystem (g : GraphData) (members : ℕ) (pass base gate source : ℕ → Bool) (s : ℕ) (left : ℕ → Bool)
    (edge : ℕ → ℕ → Bool) (right : ℕ → Bool) : Type 0 where
  pub all_left : (i : ℕ) → (left i ≡ true) ↔ (i < members)
  pub edges : (i j : ℕ) → i < members → j < members → (edge i j ≡ true) ↔ ((gate i ≡ true) × Link g pass (IsPlace g) s j i)
  pub rights : (i : ℕ) → i < members →
      (right i ≡ true) ↔ ((base i ≡ true) ⊎ ((gate i ≡ true) × Fed g members pass source (IsPlace g) s i))

-- the answers are the least solution of the system of the level
pub record SolvesLevel (g : GraphData) (members : ℕ) (pass base gate source : ℕ → Bool) (s : ℕ)
    (answer : ℕ → Bool) : Type 0 where
  pub left : ℕ → Bool
  pub edge : ℕ → ℕ → Bool
  pub right : ℕ → Bool
  pub system : IsLevelSystem g members pass base gate source s left edge right
  pub answers : (i : ℕ) → i < members → (answer i ≡ true) ↔ Sol left edge right i

-- the formulas of which the links are made
abbrev pub link_formulas : Links → List Id
link_formulas links = links.gates.now ++ (links.passes.now ++ links.sources.now)

-- there is a gate for each of so many members, a pass for each place and a source for each node, all of them formulas of the
-- pool
abbrev pub AreLinks : Links → ℕ → List Gate → Type 0
AreLinks links members pool = FitLinks links.graph.now members pool links.gates.now links.passes.now links.sources.now

-- the base of U(s) at the level of the links: U(s + 1), or the node is a clear root of this level that is a source
abbrev pub root_base : Links → List Gate → List Id → (ℕ → Bool) → ℕ → Bool
root_base links pool above vars =
    driven_base links.graph.now links.level (value_of pool above vars) (value_of pool links.gates.now vars)
    (value_of pool links.sources.now vars)

-- whatever the variables are, the answers are the least solution of the level's system that the links make over these bases
abbrev pub SolvesLinks : Links → ℕ → ((ℕ → Bool) → ℕ → Bool) → List Gate → List Gate → List Id → Type 0
SolvesLinks links members base before after answers =
    (vars : ℕ → Bool) → SolvesLevel links.graph.now members (value_of before links.passes.now vars) (base vars)
    (value_of before links.gates.now vars) (value_of before links.sources.now vars) links.level (value_of after answers vars)

-- how many steps a level's system takes at most, for n members and t switches: its links, and its solution
abbrev pub system_cost : ℕ → ℕ → ℕ
system_cost n t = 6 * t + n * (n * (2 * n + 2))
