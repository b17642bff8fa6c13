-- The functions that wait to be operands, the last first.
use Rattle.std.specs.Prelude.{List, [], ◌∷◌}
use Rattle.decision_graph.specs.declared.vertex.Function.{Function}

-- the one that came last, or else this one
abbrev pub first_or : Function → List Function → Function
first_or never [] = never
first_or never (function ∷ waiting) = function

-- the others
abbrev pub but_first : List Function → List Function
but_first [] = []
but_first (function ∷ waiting) = waiting
