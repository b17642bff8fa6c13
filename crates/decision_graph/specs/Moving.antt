-- Functions that were copied into another graph.
use Rattle.std.specs.Prelude.{◌≡◌, ℕ, ◌<◌, ◌≤◌, Bool, List, length, Option, Some, None, slice_index_or}
use Rattle.decision_graph.specs.declared.vertex.Vertex.{Vertex}
use Rattle.decision_graph.specs.declared.vertex.Function.{Function}
use Rattle.decision_graph.specs.Vertices.{level_at}
use Rattle.decision_graph.specs.Meaning.{holds}

-- the function at the place r of the new graph holds where that at the place i of the old one does, and decides on no earlier variable
pub record IsMoved (variables : ℕ) (old new : List Vertex) (i r : ℕ) : Type 0 where
  pub inside : r < length new
  pub value_is : (vars : ℕ → Bool) → holds new vars r ≡ holds old vars i
  pub later : level_at variables old i ≤ level_at variables new r

-- each function that was noted as moved was
pub record AreMoved (variables : ℕ) (old new : List Vertex) (moved : List (Option Function)) : Type 0 where
  pub count : length moved ≡ length old
  pub each : (i : ℕ) (r : Function) → slice_index_or moved i None ≡ Some r → IsMoved variables old new i r.place

-- the function at the place r of the new list holds where that at the place i of the old one does
pub record HoldsAlike (old new : List Vertex) (i r : ℕ) : Type 0 where
  pub inside : r < length new
  pub value_is : (vars : ℕ → Bool) → holds new vars r ≡ holds old vars i

-- the found functions hold where the roots do, in order
pub record AreFound (old : List Vertex) (roots : List Function) (new : List Vertex) (found : List Function) : Type 0 where
  pub count : length found ≡ length roots
  pub each : (k : ℕ) (past : Function) → k < length roots → HoldsAlike old new (slice_index_or roots k past).place (slice_index_or found k past).place
