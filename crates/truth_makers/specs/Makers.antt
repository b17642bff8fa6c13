-- The maker of functions of variables, as a maker of truths: how many columns it has, which functions are its own, in which columns they hold, and
-- when it has run out.
use Rattle.std.specs.Prelude.{◌≡◌, ℕ, ◌<◌, ◌≤◌, ◌^◌, Bool, length}
use Rattle.decision_graph.specs.declared.vertex.Function.{Function}
use Rattle.decision_graph.specs.declared.graph.GraphFault.{GraphFault}
use Rattle.decision_graph.specs.declared.graph.GraphFault.TheVariants.{Full}
use Rattle.truth_makers.specs.declared.symbols.Symbols.{Symbols}
use Rattle.truth_makers.specs.Valuations.{holds_in}

-- a column for each valuation of its variables
abbrev pub columns_in : Symbols → ℕ
columns_in symbols = 2 ^ symbols.graph.variables

-- the function is one of its graph
abbrev pub IsFunctionOf : Symbols → Function → Type 0
IsFunctionOf symbols function = function.place < length symbols.graph.vertices

-- the function holds in a column
abbrev pub function_holds : Symbols → Function → ℕ → Bool
function_holds symbols function column = holds_in symbols.graph.variables symbols.graph.vertices column function.place

-- how many vertices its graph may have
abbrev pub bound_of : Symbols → ℕ
bound_of symbols = symbols.graph.most

-- the fault tells of a full graph only if that has as many vertices as it may have; that memory ran out may be told of any
abbrev pub IsSpent : Symbols → GraphFault → Type 0
IsSpent symbols why = why ≡ Full → bound_of symbols ≤ length symbols.graph.vertices
