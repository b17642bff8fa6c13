-- The vertices of a decision graph, and what makes them a reduced ordered one.
-- After Bryant, "Graph-Based Algorithms for Boolean Function Manipulation", 1986.
use Rattle.std.specs.Prelude.{◌≡◌, ◌≢◌, ℕ, ◌<◌, ◌≤◌, ◌⊎◌, false, true, List, [], ◌∷◌, length, slice_index_or}
use Rattle.decision_graph.specs.declared.vertex.Vertex.{Vertex}
use Rattle.decision_graph.specs.declared.vertex.Vertex.TheVariants.{Leaf, Branch}

-- the vertex at a place; past the last one stands the leaf of the constant false
abbrev pub vertex_at : List Vertex → ℕ → Vertex
vertex_at vertices i = slice_index_or vertices i (Leaf false)

-- the vertex leads to the one at this place
abbrev pub IsNext : Vertex → ℕ → Type 0
IsNext (Leaf b) k = ⊥
IsNext (Branch v high low) k = (k ≡ high.place) ⊎ (k ≡ low.place)

-- each vertex stands behind those to which it leads
abbrev pub IsInOrder : List Vertex → Type 0
IsInOrder vertices = (i k : ℕ) → IsNext (vertex_at vertices i) k → k < i

-- no two vertices are equal
abbrev pub IsApart : List Vertex → Type 0
IsApart vertices = (i j : ℕ) → i < length vertices → j < length vertices → vertex_at vertices i ≡ vertex_at vertices j → i ≡ j

-- the first variable on which a vertex decides; a leaf is behind all of them
abbrev pub level_of : ℕ → Vertex → ℕ
level_of variables (Leaf b) = variables
level_of variables (Branch v high low) = v

-- the level of the vertex at a place
abbrev pub level_at : ℕ → List Vertex → ℕ → ℕ
level_at variables vertices i = level_of variables (vertex_at vertices i)

-- a vertex that decides on the variable v leads to vertices that decide on later ones, and to two different ones
pub record IsBranch (variables : ℕ) (vertices : List Vertex) (v high low : ℕ) : Type 0 where
  pub known : v < variables
  pub later_high : v < level_at variables vertices high
  pub later_low : v < level_at variables vertices low
  pub differ : high ≢ low

-- what is asked of one vertex: nothing of a leaf
abbrev pub IsDecided : ℕ → List Vertex → Vertex → Type 0
IsDecided variables vertices (Leaf b) = Unit {0}
IsDecided variables vertices (Branch v high low) = IsBranch variables vertices v high.place low.place

-- a reduced ordered decision graph: both leaves come first, and each vertex decides on a variable before those to which it leads
pub record IsReduced (variables : ℕ) (vertices : List Vertex) : Type 0 where
  pub both : 2 ≤ length vertices
  pub first : vertex_at vertices 0 ≡ Leaf false
  pub second : vertex_at vertices 1 ≡ Leaf true
  pub order : IsInOrder vertices
  pub decided : (i : ℕ) → IsDecided variables vertices (vertex_at vertices i)

-- the new list is at least as long, and each vertex of the old one keeps its place
pub record Extends (old new : List Vertex) : Type 0 where
  pub longer : length old ≤ length new
  pub kept : (i : ℕ) → i < length old → vertex_at new i ≡ vertex_at old i

-- the vertices of a graph at its start
abbrev pub leaves : List Vertex
leaves = Leaf false ∷ Leaf true ∷ []
