-- The value of a function: further vertices leave it, and it is that of its vertex.
use Rattle.std.proofs.Common.{◌≡◌, ℕ, ◌+◌, ◌<◌, Bool, false, if◌then◌else◌, List, [], ◌∷◌, ◌++◌, length, take, drop, fold, get_or, refl, sym, ap, ◌∙◌, inl, inr, arith}
use Rattle.std.specs.Prelude.{slice_index_or}
use Rattle.std.proofs.lemmas.List.{get_or_append_left, get_or_at, length-append, length-take-le, drop_more, take_more, take-append-drop, get_or-take, ext_get_or}
use Rattle.std.proofs.lemmas.List.Sums.{fold-append}
use Rattle.decision_graph.specs.declared.vertex.Vertex.{Vertex}
use Rattle.decision_graph.specs.declared.vertex.Vertex.TheVariants.{Leaf, Branch}
use Rattle.decision_graph.specs.Vertices.{vertex_at, IsNext, IsInOrder, Extends}
use Rattle.decision_graph.specs.Meaning.{vertex_value, with_value, values, holds}

-- further vertices add one value each
length-fold : (vars : ℕ → Bool) (done : List Bool) (vertices : List Vertex)
    → length (fold (with_value vars) done vertices) ≡ length done + length vertices
unfolding with_value
length-fold vars done [] = omega arith
length-fold vars done (vertex ∷ vertices) =
    let step = length-fold vars (with_value vars done vertex) vertices in
    omega (arith, step, length-append done (vertex_value vars (λ i. slice_index_or done i false) vertex ∷ []))

-- there is one value for each vertex
pub length-values : (vertices : List Vertex) (vars : ℕ → Bool) → length (values vertices vars) ≡ length vertices
unfolding values
length-values vertices vars = length-fold vars [] vertices ∙ omega arith

-- further vertices leave the values that are there
fold-keeps : (vars : ℕ → Bool) (done : List Bool) (vertices : List Vertex) (i : ℕ) → i < length done
    → get_or (fold (with_value vars) done vertices) i false ≡ get_or done i false
unfolding with_value
fold-keeps vars done [] i inside = refl
fold-keeps vars done (vertex ∷ vertices) i inside =
    let last = vertex_value vars (λ k. slice_index_or done k false) vertex ∷ [] in
    let longer : i < length (done ++ last) = omega (arith, length-append done last) in
    fold-keeps vars (with_value vars done vertex) vertices i longer ∙ get_or_append_left done last false i inside

-- a function keeps its value when vertices are added
pub holds-append : (vertices more : List Vertex) (vars : ℕ → Bool) (i : ℕ) → i < length vertices
    → holds (vertices ++ more) vars i ≡ holds vertices vars i
unfolding values holds
holds-append vertices more vars i inside =
    let kept : i < length (values vertices vars) = omega (arith, length-values vertices vars) in
    ap (λ all. get_or all i false) (fold-append (with_value vars) [] vertices more)
    ∙ fold-keeps vars (values vertices vars) more i kept

-- a list that extends another begins with it
pub Extends-append : (old new : List Vertex) → Extends old new → old ++ drop (length old) new ≡ new
Extends-append old new extends =
    ap (λ front. front ++ drop (length old) new) (sym front_is) ∙ take-append-drop (length old) new
  where
    long : length (take (length old) new) ≡ length old
    long = length-take-le (length old) new extends.longer

    front_is : take (length old) new ≡ old
    front_is = ext_get_or (Leaf false) (take (length old) new) old long
        (λ i inside.
        let before : i < length old = omega (arith, long) in
        get_or-take (length old) new i (Leaf false) before ∙ extends.kept i before)

-- the same in a pool that extends another
pub holds-extends : (old new : List Vertex) (vars : ℕ → Bool) (i : ℕ) → Extends old new → i < length old
    → holds new vars i ≡ holds old vars i
holds-extends old new vars i extends inside =
    ap (λ vertices. holds vertices vars i) (sym (Extends-append old new extends))
    ∙ holds-append old (drop (length old) new) vars i inside

-- a vertex's value depends on the values of those to which it leads alone
pub vertex_value-same : (vars f g : ℕ → Bool) (vertex : Vertex) → ((k : ℕ) → IsNext vertex k → f k ≡ g k)
    → vertex_value vars f vertex ≡ vertex_value vars g vertex
vertex_value-same vars f g (Leaf b) same = refl
vertex_value-same vars f g (Branch v high low) same =
    ap (λ x. if vars v then x else f low.place) (same high.place (inl refl)) ∙ ap (λ y. if vars v then g high.place else y) (same low.place (inr refl))

-- the value of the vertex that follows some vertices
pub holds-next : (vertices more : List Vertex) (vertex : Vertex) (vars : ℕ → Bool)
    → holds (vertices ++ vertex ∷ more) vars (length vertices) ≡ vertex_value vars (holds vertices vars) vertex
unfolding values holds with_value
holds-next vertices more vertex vars =
    let done = values vertices vars in
    let last = vertex_value vars (λ k. slice_index_or done k false) vertex in
    let kept : length vertices < length (done ++ last ∷ []) =
    omega (arith, length-values vertices vars, length-append done (last ∷ [])) in
    ap (λ all. get_or all (length vertices) false) (fold-append (with_value vars) [] vertices (vertex ∷ more))
    ∙ fold-keeps vars (with_value vars done vertex) more (length vertices) kept
    ∙ get_or_at done last [] false (length vertices) (length-values vertices vars)

-- the value of a function is its vertex's on the values of those to which it leads
pub holds-vertex : (vertices : List Vertex) (vars : ℕ → Bool) (i : ℕ) → IsInOrder vertices → i < length vertices
    → holds vertices vars i ≡ vertex_value vars (holds vertices vars) (vertex_at vertices i)
holds-vertex vertices vars i order inside =
    let front = take i vertices in
    let long : length front ≡ i = length-take-le i vertices (omega arith) in
    let split : front ++ (vertex_at vertices i ∷ drop (i + 1) vertices) ≡ vertices =
    ap (λ rest. front ++ rest) (sym (drop_more vertices i (Leaf false) inside)) ∙ take-append-drop i vertices in
    let next = holds-next front (drop (i + 1) vertices) (vertex_at vertices i) vars in
    let here : holds vertices vars i ≡ vertex_value vars (holds front vars) (vertex_at vertices i) = rw (split, long) at next in
    here ∙ vertex_value-same vars (holds front vars) (holds vertices vars) (vertex_at vertices i)
    (λ k next.
    let before : k < length front = rw long (order i k next) in
    sym (holds-append front (drop i vertices) vars k before) ∙ ap (λ all. holds all vars k) (take-append-drop i vertices))

-- the values of some vertices and one more
pub values-push : (vertices : List Vertex) (vertex : Vertex) (vars : ℕ → Bool)
    → values (vertices ++ vertex ∷ []) vars ≡ values vertices vars ++ vertex_value vars (λ i. slice_index_or (values vertices vars) i false) vertex ∷ []
unfolding values with_value
values-push vertices vertex vars = fold-append (with_value vars) [] vertices (vertex ∷ [])

-- the values of the vertices up to the next one
pub values-more : (vertices : List Vertex) (i : ℕ) (vars : ℕ → Bool) (done : List Bool) → i < length vertices → done ≡ values (take i vertices) vars
    → done ++ vertex_value vars (λ k. slice_index_or done k false) (vertex_at vertices i) ∷ [] ≡ values (take (i + 1) vertices) vars
values-more vertices i vars done inside is =
    rw (is, take_more vertices i (Leaf false) inside) (sym (values-push (take i vertices) (vertex_at vertices i) vars))

-- the values of the vertices up to a function's have one for the function
pub length-values_take : (vertices : List Vertex) (vars : ℕ → Bool) (i : ℕ) → i < length vertices
    → i < length (values (take (i + 1) vertices) vars)
length-values_take vertices vars i inside =
    omega (arith, length-values (take (i + 1) vertices) vars, length-take-le (i + 1) vertices (omega arith))

-- a function's value is the last of the values up to its vertex
pub holds-take : (vertices : List Vertex) (vars : ℕ → Bool) (i : ℕ) → i < length vertices
    → get_or (values (take (i + 1) vertices) vars) i false ≡ holds vertices vars i
unfolding holds
holds-take vertices vars i inside =
    let long : i < length (take (i + 1) vertices) = omega (arith, length-take-le (i + 1) vertices (omega arith)) in
    sym (holds-append (take (i + 1) vertices) (drop (i + 1) vertices) vars i long)
    ∙ ap (λ all. holds all vars i) (take-append-drop (i + 1) vertices)
