-- The truth value of a function, under truth values for all variables.
-- After Bryant, "Graph-Based Algorithms for Boolean Function Manipulation", 1986.
use Rattle.std.specs.Prelude.{◌≡◌, ℕ, ◌<◌, ◌≤◌, Bool, true, false, not, ◌&&◌, ◌||◌, List, [], ◌∷◌, ◌++◌, fold, nat_eq, slice_index_or, if◌then◌else◌}
use Rattle.decision_graph.specs.declared.vertex.Vertex.{Vertex}
use Rattle.decision_graph.specs.declared.vertex.Vertex.TheVariants.{Leaf, Branch}
use Rattle.decision_graph.specs.declared.combining.Kind.{Kind}
use Rattle.decision_graph.specs.declared.combining.Kind.TheVariants.{And, Or, Differ}

-- the truth values that a list gives the variables: one past its end is false
abbrev pub assigned : List Bool → ℕ → Bool
assigned vars v = slice_index_or vars v false

-- the value of a vertex, from the values of the variables and of the vertices at each place
abbrev pub vertex_value : (ℕ → Bool) → (ℕ → Bool) → Vertex → Bool
vertex_value vars at_place (Leaf b) = b
vertex_value vars at_place (Branch v high low) = if vars v then at_place high.place else at_place low.place

-- the values of some vertices, and then that of the vertex that follows them
unfoldable pub with_value : (ℕ → Bool) → List Bool → Vertex → List Bool
with_value vars done vertex = done ++ vertex_value vars (λ i. slice_index_or done i false) vertex ∷ []

-- the values of all vertices, in order of place
unfoldable pub values : List Vertex → (ℕ → Bool) → List Bool
values vertices vars = fold (with_value vars) [] vertices

-- the function at a place holds under this valuation of the variables
unfoldable pub holds : List Vertex → (ℕ → Bool) → ℕ → Bool
holds vertices vars i = slice_index_or (values vertices vars) i false

-- what an operation gives of two truth values
abbrev pub kind_value : Kind → Bool → Bool → Bool
kind_value And a b = a && b
kind_value Or a b = a || b
kind_value Differ a b = if a then not b else b

-- the valuation with another value for one variable
abbrev pub with_variable : ℕ → Bool → (ℕ → Bool) → ℕ → Bool
with_variable v b vars w = if nat_eq w v then b else vars w

-- of the valuations under which a function holds, none is before this one from a variable on: where one has the same values before a
-- variable which this one sets, it sets it too
abbrev pub IsBeforeAll : List Vertex → ℕ → ℕ → (ℕ → Bool) → Type 0
IsBeforeAll vertices i from vars =
    (g : ℕ → Bool) (v : ℕ) → holds vertices g i ≡ true → ((w : ℕ) → w < v → g w ≡ vars w) → from ≤ v → vars v ≡ true → g v ≡ true
