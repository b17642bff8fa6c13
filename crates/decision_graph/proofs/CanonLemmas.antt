-- What a reduced graph says of its leaves.
use Rattle.std.proofs.Common.{◌≡◌, ◌≢◌, ℕ, ◌<◌, Bool, true, false, List, length, refl, sym, ap, ◌∙◌, arith}
use Rattle.decision_graph.specs.declared.vertex.Vertex.{Vertex}
use Rattle.decision_graph.specs.declared.vertex.Vertex.TheVariants.{Leaf, Branch}
use Rattle.decision_graph.specs.Vertices.{vertex_at, level_at, level_of, IsApart, IsDecided, IsReduced}
use Rattle.decision_graph.specs.Meaning.{vertex_value, holds}
use Rattle.decision_graph.proofs.ValueLemmas.{holds-vertex}

-- a leaf holds its constant
pub holds-leaf : (variables : ℕ) (vertices : List Vertex) (vars : ℕ → Bool) (i : ℕ) (b : Bool) → IsReduced variables vertices → i < length vertices
    → vertex_at vertices i ≡ Leaf b → holds vertices vars i ≡ b
holds-leaf variables vertices vars i b reduced inside is =
    holds-vertex vertices vars i reduced.order inside ∙ ap (λ x. vertex_value vars (holds vertices vars) x) is

-- the level of a leaf
pub level-leaf : (variables : ℕ) (vertices : List Vertex) (i : ℕ) (b : Bool) → vertex_at vertices i ≡ Leaf b → level_at variables vertices i ≡ variables
level-leaf variables vertices i b is = ap (level_of variables) is

-- a vertex that is neither of the first two decides on a variable
pub level-branch : (variables : ℕ) (vertices : List Vertex) (i : ℕ) → IsReduced variables vertices → IsApart vertices → i ≢ 0 → i ≢ 1 → i < length vertices
    → level_at variables vertices i < variables
level-branch variables vertices i reduced apart not_first not_second inside = by (vertex_at vertices i) refl (reduced.decided i)
  where
    by : (x : Vertex) → vertex_at vertices i ≡ x → IsDecided variables vertices x → level_of variables x < variables
    by (Leaf false) is decided = absurd (not_first (apart i 0 inside (omega (arith, reduced.both)) (is ∙ sym reduced.first)))
    by (Leaf true) is decided = absurd (not_second (apart i 1 inside (omega (arith, reduced.both)) (is ∙ sym reduced.second)))
    by (Branch v high low) is decided = decided.known

-- a leaf that isn't the first vertex is the constant true
pub leaf-true : (variables : ℕ) (vertices : List Vertex) (i : ℕ) (b : Bool) → IsReduced variables vertices → IsApart vertices → i ≢ 0 → i < length vertices
    → vertex_at vertices i ≡ Leaf b → b ≡ true
leaf-true variables vertices i true reduced apart not_first inside is = refl
leaf-true variables vertices i false reduced apart not_first inside is =
    absurd (not_first (apart i 0 inside (omega (arith, reduced.both)) (is ∙ sym reduced.first)))
