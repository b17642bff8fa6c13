-- Vertices are compared by equality, and a graph stays reduced when a vertex is put.
use Rattle.std.proofs.Common.{◌≡◌, ℕ, ◌+◌, ◌<◌, ◌≤◌, ◌⊎◌, Bool, true, false, not, List, [], ◌∷◌, ◌++◌, length, get_or, Some, slice_get, refl, sym, ap, ◌∙◌, subst, inl, inr, ⊎_elim, if◌then◌else◌, true≢false, arith, rules}
use Rattle.std.specs.List.{IsDistinct, list_any, position_or_len}
use Rattle.std.proofs.lemmas.List.{get_or_append_left, get_or_at, get_or_past, length_push}
use Rattle.std.proofs.lemmas.List.Folds.{list_any_at}
use Rattle.std.proofs.lemmas.List.Sums.{position_or_len_is}
use Rattle.std.proofs.lemmas.Option.{get_or_from_slice_get}
use Rattle.std.proofs.lemmas.Map.Keys.{apart_from_distinct}
use Rattle.indexmap.specs.IndexSet.{insert_key}
use Rattle.decision_graph.specs.declared.vertex.Vertex.{Vertex}
use Rattle.decision_graph.specs.declared.vertex.Vertex.TheVariants.{Leaf, Branch}
use Rattle.decision_graph.specs.contracts.vertex.VertexPartialEq.TheImpl as eq
use Rattle.decision_graph.specs.Vertices.{vertex_at, level_at, level_of, IsNext, IsInOrder, IsApart, IsDecided, IsReduced, Extends}
use Rattle.decision_graph.specs.Meaning.{vertex_value, holds}
use Rattle.decision_graph.specs.Making.{IsOver, IsPlaced}
use Rattle.decision_graph.proofs.ValueLemmas.{holds-vertex}

-- a vertex equals itself
vertex_eq-same : (x : Vertex) → eq.eq-value.it x x ≡ true
vertex_eq-same (Leaf b) = search rules
vertex_eq-same (Branch v high low) = search rules

-- vertices that `==` takes as equal are equal
vertex_eq-true : (x y : Vertex) → eq.eq-value.it x y ≡ true → x ≡ y
vertex_eq-true (Leaf a) (Leaf b) e = search rules
vertex_eq-true (Leaf a) (Branch v high low) e = search rules
vertex_eq-true (Branch v high low) (Leaf b) e = search rules
vertex_eq-true (Branch v high low) (Branch w more less) e = search rules

-- a place is before another, at it or past it
place_of : (m n : ℕ) → (m < n) ⊎ ((m ≡ n) ⊎ (n < m))
place_of m n = grind arith

-- equal vertices are not at two places
equal_apart : (vertices : List Vertex) → IsDistinct eq.eq-value.it vertices → (i j : ℕ) → i < j → j < length vertices
    → vertex_at vertices i ≡ vertex_at vertices j → ⊥
equal_apart vertices distinct i j less inside same =
    true≢false (sym (vertex_eq-same (vertex_at vertices i)) ∙ ap (λ x. eq.eq-value.it (vertex_at vertices i) x) same
    ∙ apart_from_distinct eq.eq-value.it vertices i j (Leaf false) distinct less inside)

-- keys that are apart are different vertices
pub IsApart-from_distinct : (vertices : List Vertex) → IsDistinct eq.eq-value.it vertices → IsApart vertices
IsApart-from_distinct vertices distinct i j inside_i inside_j same =
    elim (place_of i j) [
      | inl less ↦ absurd (equal_apart vertices distinct i j less inside_j same)
      | inr rest ↦ elim rest [
        | inl e ↦ e
        | inr less ↦ absurd (equal_apart vertices distinct j i less inside_i (sym same))
      ]
    ]

-- a list that has one more vertex extends it
pub Extends-push : (vertices : List Vertex) (vertex : Vertex) → Extends vertices (vertices ++ vertex ∷ [])
Extends-push vertices vertex = record {
  longer = omega (arith, length_push vertices vertex);
  kept = λ i inside. get_or_append_left vertices (vertex ∷ []) (Leaf false) i inside;
}

-- a list extends itself
pub Extends-same : (vertices : List Vertex) → Extends vertices vertices
Extends-same vertices = record { longer = omega arith; kept = λ i inside. refl }

-- what extends a list that extends another extends that one
pub Extends-trans : (a b c : List Vertex) → Extends a b → Extends b c → Extends a c
Extends-trans a b c first second = record {
  longer = omega (arith, first.longer, second.longer);
  kept = λ i inside. second.kept i (omega (arith, first.longer)) ∙ first.kept i inside;
}

-- a function keeps its level when vertices are added
pub level-extends : (variables : ℕ) (old new : List Vertex) (i : ℕ) → Extends old new → i < length old
    → level_at variables new i ≡ level_at variables old i
level-extends variables old new i extends inside = ap (level_of variables) (extends.kept i inside)

-- a vertex over some vertices decides as it should when vertices are added
pub IsDecided-extends : (variables : ℕ) (old new : List Vertex) (vertex : Vertex) → Extends old new
    → ((k : ℕ) → IsNext vertex k → k < length old) → IsDecided variables old vertex → IsDecided variables new vertex
IsDecided-extends variables old new (Leaf b) extends inside decided = tt
IsDecided-extends variables old new (Branch v high low) extends inside decided = record {
  known = decided.known;
  later_high = rw (level-extends variables old new high.place extends (inside high.place (inl refl))) decided.later_high;
  later_low = rw (level-extends variables old new low.place extends (inside low.place (inr refl))) decided.later_low;
  differ = decided.differ;
}

-- the vertex at the end
push_at : (vertices : List Vertex) (vertex : Vertex) (i : ℕ) → i ≡ length vertices → vertex_at (vertices ++ vertex ∷ []) i ≡ vertex
push_at vertices vertex i e = get_or_at vertices vertex [] (Leaf false) i (sym e)

-- past the end there is nothing
push_past : (vertices : List Vertex) (vertex : Vertex) (i : ℕ) → length vertices < i → vertex_at (vertices ++ vertex ∷ []) i ≡ Leaf false
push_past vertices vertex i more = get_or_past (vertices ++ vertex ∷ []) i (Leaf false) (omega (arith, length_push vertices vertex))

-- a list in order stays so with one more vertex over it
IsInOrder-push : (vertices : List Vertex) (vertex : Vertex) → IsInOrder vertices → ((k : ℕ) → IsNext vertex k → k < length vertices)
    → IsInOrder (vertices ++ vertex ∷ [])
IsInOrder-push vertices vertex order over i k next =
    ⊎_elim
    (λ (less : i < length vertices). order i k (subst (λ x. IsNext x k) (get_or_append_left vertices (vertex ∷ []) (Leaf false) i less) next))
    (λ (rest : (i ≡ length vertices) ⊎ (length vertices < i)). ⊎_elim
    (λ e. rw e (over k (subst (λ x. IsNext x k) (push_at vertices vertex i e) next)))
    (λ (more : length vertices < i). absurd (subst (λ x. IsNext x k) (push_past vertices vertex i more) next))
    rest)
    (place_of i (length vertices))

-- a reduced graph stays so with one more vertex over it
pub IsReduced-push : (variables : ℕ) (vertices : List Vertex) (vertex : Vertex) → IsReduced variables vertices → IsOver variables vertices vertex
    → IsReduced variables (vertices ++ vertex ∷ [])
IsReduced-push variables vertices vertex reduced over = record {
  both = omega (arith, length_push vertices vertex, reduced.both);
  first = extends.kept 0 (omega (arith, reduced.both)) ∙ reduced.first;
  second = extends.kept 1 (omega (arith, reduced.both)) ∙ reduced.second;
  order = IsInOrder-push vertices vertex reduced.order over.inside;
  decided = λ i. ⊎_elim
      (λ (less : i < length vertices). subst (IsDecided variables grown) (sym (extends.kept i less))
      (IsDecided-extends variables vertices grown (vertex_at vertices i) extends
      (λ k next. let before : k < i = reduced.order i k next in omega arith) (reduced.decided i)))
      (λ (rest : (i ≡ length vertices) ⊎ (length vertices < i)). ⊎_elim
      (λ e. subst (IsDecided variables grown) (sym (push_at vertices vertex i e))
      (IsDecided-extends variables vertices grown vertex extends over.inside over.decided))
      (λ more. subst (IsDecided variables grown) (sym (push_past vertices vertex i more)) tt)
      rest)
      (place_of i (length vertices));
}
  where
    grown : List Vertex
    grown = vertices ++ vertex ∷ []

    extends : Extends vertices grown
    extends = Extends-push vertices vertex

-- a list with no element that passes has its length as the first place
position_or_len-none : (test : Vertex → Bool) (vertices : List Vertex) → list_any test vertices ≡ false
    → position_or_len test vertices ≡ length vertices
position_or_len-none test vertices none =
    position_or_len_is test vertices (length vertices) (Leaf false) (omega arith) fails (λ past. absurd (omega arith))
  where
    fails : (k : ℕ) → k < length vertices → test (get_or vertices k (Leaf false)) ≡ false
    fails k inside = by (test (get_or vertices k (Leaf false))) refl
      where
        by : (b : Bool) → test (get_or vertices k (Leaf false)) ≡ b → test (get_or vertices k (Leaf false)) ≡ false
        by true e = absurd (true≢false (sym (list_any_at test vertices k (Leaf false) inside e) ∙ none))
        by false e = e

-- an insertion leaves the vertices, or puts the vertex at their end
pub inserted_either : (test : Vertex → Vertex → Bool) (vertices : List Vertex) (vertex : Vertex)
    → (insert_key test vertices vertex ≡ vertices) ⊎ (insert_key test vertices vertex ≡ vertices ++ vertex ∷ [])
inserted_either test vertices vertex = by (list_any (test vertex) vertices) refl
  where
    by : (b : Bool) → list_any (test vertex) vertices ≡ b
        → (insert_key test vertices vertex ≡ vertices) ⊎ (insert_key test vertices vertex ≡ vertices ++ vertex ∷ [])
    by true e = inl (ap (λ b. if b then vertices else vertices ++ vertex ∷ []) e)
    by false e = inr (ap (λ b. if b then vertices else vertices ++ vertex ∷ []) e)

-- what an insertion makes extends what was there
pub Extends-inserted : (old new : List Vertex) (vertex : Vertex) → new ≡ insert_key eq.eq-value.it old vertex → Extends old new
Extends-inserted old new vertex inserted =
    ⊎_elim (λ stays. subst (Extends old) (sym (inserted ∙ stays)) (Extends-same old))
    (λ grows. subst (Extends old) (sym (inserted ∙ grows)) (Extends-push old vertex))
    (inserted_either eq.eq-value.it old vertex)

-- a graph stays reduced with an insertion
pub IsReduced-inserted : (variables : ℕ) (old new : List Vertex) (vertex : Vertex) → IsReduced variables old → IsOver variables old vertex
    → new ≡ insert_key eq.eq-value.it old vertex → IsReduced variables new
IsReduced-inserted variables old new vertex reduced over inserted =
    ⊎_elim (λ stays. subst (IsReduced variables) (sym (inserted ∙ stays)) reduced)
    (λ grows. subst (IsReduced variables) (sym (inserted ∙ grows)) (IsReduced-push variables old vertex reduced over))
    (inserted_either eq.eq-value.it old vertex)

-- a vertex that is found stands where the set says
pub IsPlaced-stored : (variables : ℕ) (vertices : List Vertex) (vertex : Vertex) (place : ℕ) → IsReduced variables vertices → place < length vertices
    → (k : Vertex) × (slice_get vertices place ≡ Some k) × (eq.eq-value.it vertex k ≡ true) → IsPlaced vertices vertex place
IsPlaced-stored variables vertices vertex place reduced inside stored =
    let found : vertex_at vertices place ≡ vertex =
    get_or_from_slice_get vertices place stored.0 (Leaf false) stored.1 ∙ sym (vertex_eq-true vertex stored.0 stored.2) in
    record {
      inside = inside;
      vertex_is = found;
      value_is = λ vars. holds-vertex vertices vars place reduced.order inside ∙ ap (λ x. vertex_value vars (holds vertices vars) x) found;
    }

-- an insertion stays within a bound if there was room, or the vertex was there
pub few-inserted : (old new most : ℕ) (fresh there : Bool) → new ≡ old + (if fresh then 1 else 0) → fresh ≡ not there
    → (old < most) ⊎ (there ≡ true) → old ≤ most → new ≤ most
few-inserted old new most true true grows is room few = absurd (true≢false is)
few-inserted old new most true false grows is room few =
    ⊎_elim (λ (less : old < most). let n : new ≡ old + 1 = grows in omega arith) (λ e. absurd (true≢false (sym e))) room
few-inserted old new most false there grows is room few = let n : new ≡ old + 0 = grows in omega arith
