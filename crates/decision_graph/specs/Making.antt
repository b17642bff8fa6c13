-- What is known of a function that was made from others.
use Rattle.std.specs.Prelude.{◌≡◌, ℕ, ◌<◌, ◌≤◌, Bool, List, length, min, if◌then◌else◌}
use Rattle.decision_graph.specs.declared.vertex.Vertex.{Vertex}
use Rattle.decision_graph.specs.declared.combining.Kind.{Kind}
use Rattle.decision_graph.specs.Vertices.{vertex_at, level_at, IsNext, IsDecided}
use Rattle.decision_graph.specs.Meaning.{vertex_value, holds, kind_value}

-- the vertex may be put behind these: it leads to some of them, and a branch decides as it should
pub record IsOver (variables : ℕ) (vertices : List Vertex) (vertex : Vertex) : Type 0 where
  pub inside : (k : ℕ) → IsNext vertex k → k < length vertices
  pub decided : IsDecided variables vertices vertex

-- the vertex stands at the place r, and has its value
pub record IsPlaced (vertices : List Vertex) (vertex : Vertex) (r : ℕ) : Type 0 where
  pub inside : r < length vertices
  pub vertex_is : vertex_at vertices r ≡ vertex
  pub value_is : (vars : ℕ → Bool) → holds vertices vars r ≡ vertex_value vars (holds vertices vars) vertex

-- the function at the place r is this operation's on two others, and decides on no variable before both of them
pub record IsCombined (variables : ℕ) (vertices : List Vertex) (kind : Kind) (a b r : ℕ) : Type 0 where
  pub inside : r < length vertices
  pub value_is : (vars : ℕ → Bool) → holds vertices vars r ≡ kind_value kind (holds vertices vars a) (holds vertices vars b)
  pub later : min (level_at variables vertices a) (level_at variables vertices b) ≤ level_at variables vertices r

-- a function parted by a variable: what it is where that is true, and where it is false; both decide on later ones
pub record IsParted (variables : ℕ) (vertices : List Vertex) (v a high low : ℕ) : Type 0 where
  pub high_inside : high < length vertices
  pub low_inside : low < length vertices
  pub high_later : v < level_at variables vertices high
  pub low_later : v < level_at variables vertices low
  pub value_is : (vars : ℕ → Bool) → holds vertices vars a ≡ (if vars v then holds vertices vars high else holds vertices vars low)

-- the function at the place r is one function if a variable is true, and another if it is false
pub record IsChosen (variables : ℕ) (vertices : List Vertex) (v high low r : ℕ) : Type 0 where
  pub inside : r < length vertices
  pub value_is : (vars : ℕ → Bool) → holds vertices vars r ≡ (if vars v then holds vertices vars high else holds vertices vars low)
  pub later : v ≤ level_at variables vertices r

-- what an entry of the notes says is so
pub record IsRight (variables : ℕ) (vertices : List Vertex) (kind : Kind) (a b r : ℕ) : Type 0 where
  pub first : a < length vertices
  pub second : b < length vertices
  pub combined : IsCombined variables vertices kind a b r
