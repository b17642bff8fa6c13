-- Names that stand for functions of a decision graph, and the truth values that they have under a valuation.
use Rattle.std.specs.Prelude.{ℕ, ◌<◌, Bool, false, List, [], ◌∷◌, ◌++◌, length, map, All, bytes_eq, if◌then◌else◌}
use Rattle.decision_graph.specs.declared.vertex.Vertex.{Vertex}
use Rattle.decision_graph.specs.declared.vertex.Function.{Function}
use Rattle.decision_graph.specs.Meaning.{holds}

-- names, in the order in which they came, and their functions
pub record TableData : Type 0 where
  pub names : List (List ℕ)
  pub functions : List Function

abbrev pub table_of : List (List ℕ) → List Function → TableData
table_of names functions = record { names = names; functions = functions }

-- no name yet
abbrev pub no_table : TableData
no_table = table_of [] []

-- with a name behind the others
abbrev pub with_named : TableData → List ℕ → Function → TableData
with_named table name function = table_of (table.names ++ name ∷ []) (table.functions ++ function ∷ [])

-- the truth value of a name, by names and the truth values that they have, in order; a name that isn't among them is false
abbrev pub value_named : List (List ℕ) → List Bool → List ℕ → Bool
value_named [] truths name = false
value_named (own ∷ names) [] name = false
value_named (own ∷ names) (truth ∷ truths) name = if bytes_eq name own then truth else value_named names truths name

-- the truth values of functions under a valuation
abbrev pub values_under : List Vertex → (ℕ → Bool) → List Function → List Bool
values_under vertices vars functions = map (λ function. holds vertices vars function.place) functions

-- the truth value of a name under a valuation
abbrev pub named_under : List Vertex → (ℕ → Bool) → TableData → List ℕ → Bool
named_under vertices vars table = value_named table.names (values_under vertices vars table.functions)

-- the functions are those of a graph with these vertices
abbrev pub AreInside : List Vertex → List Function → Type 0
AreInside vertices functions = All (λ function. function.place < length vertices) functions
