-- How a formula is made a function, part by part.
use Rattle.std.proofs.Common.{◌≡◌, ℕ, ◌+◌, ◌<◌, Bool, List, [], length, drop, get_or, refl, sym, ap, ◌∙◌, subst, arith}
use Rattle.std.proofs.lemmas.List.{at_drop_more}
use Rattle.decision_graph.specs.declared.vertex.Vertex.{Vertex}
use Rattle.decision_graph.specs.declared.vertex.Function.{Function}
use Rattle.decision_graph.specs.Vertices.{Extends}
use Rattle.decision_graph.specs.Graphs.{GraphData, SameShape}
use Rattle.decision_graph.proofs.VertexLemmas.{Extends-same, Extends-trans}
use Rattle.formulas.specs.declared.formula.Part.{Part}
use Rattle.formula_functions.specs.Tables.{AreInside, value_named, values_under}
use Rattle.formula_functions.specs.Truths.{after_part, after_parts}
use Rattle.formula_functions.proofs.TableLemmas.{values_under-extends}

-- graphs of one shape, and that extend one another
pub shape_stays : (graph : GraphData) → SameShape graph graph
shape_stays graph = record { variables = refl; most = refl }

pub shapes_follow : (a b c : GraphData) → SameShape a b → SameShape b c → SameShape a c
shapes_follow a b c first second = record { variables = second.variables ∙ first.variables; most = second.most ∙ first.most }

pub graph_stays : (vertices : List Vertex) → Extends vertices vertices
graph_stays vertices = Extends-same vertices

pub graphs_follow : (a b c : List Vertex) → Extends a b → Extends b c → Extends a c
graphs_follow a b c first second = Extends-trans a b c first second

-- at the start nothing waits, and all parts are left
pub none_waits : (vertices : List Vertex) (waiting : List Function) → waiting ≡ [] → AreInside vertices waiting
none_waits vertices waiting none = subst (AreInside vertices) (sym none) (λ k d less. absurd (omega (arith, less)))

pub all_begins : (values : List ℕ → Bool) (parts : List Part) (vertices : List Vertex) (vars : ℕ → Bool) (waiting : List Function) → waiting ≡ [] →
    after_parts values (drop 0 parts) (values_under vertices vars waiting) ≡ after_parts values parts []
all_begins values parts vertices vars waiting none = ap (λ own. after_parts values parts (values_under vertices vars own)) none

-- after one part more the others are left
pub goes_on : (names : List (List ℕ)) (functions : List Function) (first now new : List Vertex) (parts : List Part) (i : ℕ) (d : Part) (waiting after : List Function) →
    Extends first now → AreInside first functions → i < length parts →
    ((vars : ℕ → Bool) → values_under new vars after
    ≡ after_part (value_named names (values_under now vars functions)) (values_under now vars waiting) (get_or parts i d)) →
    ((vars : ℕ → Bool) → after_parts (value_named names (values_under first vars functions)) (drop i parts) (values_under now vars waiting)
    ≡ after_parts (value_named names (values_under first vars functions)) parts []) →
    (vars : ℕ → Bool) → after_parts (value_named names (values_under first vars functions)) (drop (i + 1) parts) (values_under new vars after)
    ≡ after_parts (value_named names (values_under first vars functions)) parts []
goes_on names functions first now new parts i d waiting after extends there inside step so_far vars =
    let values = value_named names (values_under first vars functions) in
    let same : value_named names (values_under now vars functions) ≡ values =
    ap (value_named names) (values_under-extends first now vars functions extends there) in
    ap (after_parts values (drop (i + 1) parts))
    (step vars ∙ ap (λ (own : List ℕ → Bool). after_part own (values_under now vars waiting) (get_or parts i d)) same)
    ∙ sym (at_drop_more (λ (left : List Part). after_parts values left (values_under now vars waiting)) parts i d inside)
    ∙ so_far vars
