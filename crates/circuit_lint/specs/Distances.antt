-- How far Gnd is from each node, by the number of always closed switches on the way down; and the search from Gnd that finds it.
use Rattle.std.specs.Prelude.{◌≡◌, ℕ, ◌+◌, ◌<◌, ◌≤◌, List, ◌++◌, length, count_by, is_none, slice_index, slice_index_or, Option, Some, None}
use Rattle.switch_paths.specs.declared.TheConstants.{GND}
use Rattle.switch_paths.specs.Graphs.{GraphData, nodes, IsStorage}
use Rattle.circuit_lint.specs.Conducting.{IsClosedAcross}
use Rattle.circuit_lint.specs.Shorts.{LeadsDown, GoesBefore}

-- the distance that a table has for a node; past the last node it has none
abbrev pub distance_at : List (Option ℕ) → ℕ → Option ℕ
distance_at distance node = slice_index_or distance node None

-- of each node from which a way leads down the length of a shortest one
pub record AreDistances (g : GraphData) (distance : List (Option ℕ)) : Type 0 where
  pub count : length distance ≡ nodes g
  pub way : (node far : ℕ) → distance_at distance node ≡ Some far → (places : List ℕ) × LeadsDown g places node × (length places ≡ far)
  pub least : (node : ℕ) (places : List ℕ) → LeadsDown g places node → (far : ℕ) × (distance_at distance node ≡ Some far) × (far ≤ length places)

-- the nodes that were found, in order, each with its distance; the search has reached the one at this place
pub record IsSearched (g : GraphData) (count : ℕ) (distance : List (Option ℕ)) (order : List ℕ) : Type 0 where
  pub size : length distance ≡ nodes g
  pub root : distance_at distance GND ≡ Some 0
  pub way : (node far : ℕ) → distance_at distance node ≡ Some far → (places : List ℕ) × LeadsDown g places node × (length places ≡ far)
  pub listed : (node far : ℕ) → distance_at distance node ≡ Some far → (k : ℕ) × (k < length order) × (slice_index order k ≡ node)
  pub known : (k : ℕ) → k < length order → (far : ℕ) × (distance_at distance (slice_index order k) ≡ Some far)
  pub low : (node far : ℕ) → distance_at distance node ≡ Some far → far < length order
  pub counted : length order + count_by is_none distance ≡ nodes g
  pub rising : (j k near far : ℕ) → j ≤ k → k < length order → distance_at distance (slice_index order j) ≡ Some near →
      distance_at distance (slice_index order k) ≡ Some far → near ≤ far
  pub close : (node far here : ℕ) → count < length order → distance_at distance (slice_index order count) ≡ Some here →
      distance_at distance node ≡ Some far → far ≤ here + 1

-- from the first of them, so many, all storage nodes that they join were found, each one switch farther at most
abbrev pub HasSpread : GraphData → ℕ → List (Option ℕ) → List ℕ → Type 0
HasSpread g count distance order =
    (k place node far : ℕ) → k < count → IsStorage g node → IsClosedAcross g place (slice_index order k) node →
    distance_at distance (slice_index order k) ≡ Some far → (farther : ℕ) × (distance_at distance node ≡ Some farther) × (farther ≤ far + 1)

-- what was found stays, in its order
pub record Keeps (distance more : List (Option ℕ)) (order longer : List ℕ) : Type 0 where
  pub found : (node far : ℕ) → distance_at distance node ≡ Some far → distance_at more node ≡ Some far
  pub grown : (rest : List ℕ) × (longer ≡ order ++ rest)

-- a node was found
abbrev pub IsFound : List (Option ℕ) → ℕ → Type 0
IsFound distance node = (far : ℕ) × (distance_at distance node ≡ Some far)

-- a way leads down from the node, and goes before each that does
pub record IsFirstDown (g : GraphData) (node : ℕ) (places : List ℕ) : Type 0 where
  pub down : LeadsDown g places node
  pub first : (others : List ℕ) → LeadsDown g others node → GoesBefore places others
