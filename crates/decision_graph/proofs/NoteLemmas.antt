-- Notes stay right when vertices are added.
use Rattle.std.proofs.Common.{ℕ, ◌<◌, List, length, get_or, All, sym, ap, ◌∙◌, arith}
use Rattle.decision_graph.specs.declared.vertex.Vertex.{Vertex}
use Rattle.decision_graph.specs.declared.notes.Note.{Note}
use Rattle.decision_graph.specs.declared.combining.Kind.{Kind}
use Rattle.decision_graph.specs.Vertices.{Extends}
use Rattle.decision_graph.specs.Meaning.{holds, kind_value}
use Rattle.decision_graph.specs.Making.{IsCombined}
use Rattle.decision_graph.specs.Graphs.{IsNoted}
use Rattle.decision_graph.proofs.ValueLemmas.{holds-extends}
use Rattle.decision_graph.proofs.VertexLemmas.{level-extends}

-- a function that was combined from two others stays so
pub IsCombined-extends : (variables : ℕ) (old new : List Vertex) (kind : Kind) (a b r : ℕ) → Extends old new → a < length old → b < length old
    → IsCombined variables old kind a b r → IsCombined variables new kind a b r
IsCombined-extends variables old new kind a b r extends first second made = record {
  inside = omega (arith, extends.longer, made.inside);
  value_is = λ vars. holds-extends old new vars r extends made.inside ∙ made.value_is vars
      ∙ ap (λ x. kind_value kind x (holds old vars b)) (sym (holds-extends old new vars a extends first))
      ∙ ap (λ x. kind_value kind (holds new vars a) x) (sym (holds-extends old new vars b extends second));
  later = rw (
    level-extends variables old new a extends first,
    level-extends variables old new b extends second,
    level-extends variables old new r extends made.inside,
  ) made.later;
}

-- a note stays right
pub IsNoted-extends : (variables : ℕ) (old new : List Vertex) (note : Note) → Extends old new → IsNoted variables old note → IsNoted variables new note
IsNoted-extends variables old new note extends noted = record {
  first = omega (arith, extends.longer, noted.first);
  second = omega (arith, extends.longer, noted.second);
  combined = IsCombined-extends variables old new note.kind note.a.place note.b.place note.made.place extends noted.first noted.second noted.combined;
}

-- all notes stay right
pub AllNoted-extends : (variables : ℕ) (old new : List Vertex) (notes : List Note) → Extends old new
    → All (IsNoted variables old) notes → All (IsNoted variables new) notes
AllNoted-extends variables old new notes extends all = λ k d inside. IsNoted-extends variables old new (get_or notes k d) extends (all k d inside)
