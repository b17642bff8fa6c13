-- A decision graph as contracts see it.
use Rattle.std.specs.Prelude.{◌≡◌, ℕ, ◌<◌, ◌≤◌, ◌^◌, List, length, All}
use Rattle.decision_graph.specs.declared.vertex.Vertex.{Vertex}
use Rattle.decision_graph.specs.declared.notes.Note.{Note}
use Rattle.decision_graph.specs.declared.TheConstants.{MOST_VARIABLES}
use Rattle.decision_graph.specs.Vertices.{IsReduced}
use Rattle.decision_graph.specs.Making.{IsRight}

-- how many variables there are, how many vertices there may be, and the vertices, in order of place
pub record GraphData : Type 0 where
  pub variables : ℕ
  pub most : ℕ
  pub vertices : List Vertex

-- what a note says is so
abbrev pub IsNoted : ℕ → List Vertex → Note → Type 0
IsNoted variables vertices note = IsRight variables vertices note.kind note.a.place note.b.place note.made.place

-- what a graph keeps: its vertices are reduced and within the bound, there are few variables, and each note is right
pub record AreKept (variables most : ℕ) (vertices : List Vertex) (notes : List Note) : Type 0 where
  pub reduced : IsReduced variables vertices
  pub few : length vertices ≤ most
  pub bounded : most < 2 ^ 32
  pub shallow : variables ≤ MOST_VARIABLES
  pub some : 0 < length notes
  pub right : All (IsNoted variables vertices) notes

-- as many variables and the same bound
pub record SameShape (old new : GraphData) : Type 0 where
  pub variables : new.variables ≡ old.variables
  pub most : new.most ≡ old.most
