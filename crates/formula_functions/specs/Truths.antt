-- The truth value of the parts of a formula, by those of names, part by part: what waits to be an operand stands in a list, the last first. That
-- this is the value of the formula that they are of is a law.
-- After Dijkstra, "An ALGOL 60 Translator for the X1", 1961.
use Rattle.std.specs.Prelude.{◌≡◌, ℕ, Bool, false, not, List, [], ◌∷◌}
use Rattle.formulas.specs.declared.formula.Part.{Part}
use Rattle.formulas.specs.declared.formula.Part.TheVariants.{Name, Not, Join}
use Rattle.formulas.specs.Formulas.{Formula, formula_value, postfix, sign_value}

-- the truth value that came last, and the others; of a formula's parts there is one wherever it is asked for
abbrev pub last_of : List Bool → Bool
last_of [] = false
last_of (value ∷ waiting) = value

abbrev pub but_last : List Bool → List Bool
but_last [] = []
but_last (value ∷ waiting) = waiting

-- the truth values that wait after a part
abbrev pub after_part : (List ℕ → Bool) → List Bool → Part → List Bool
after_part values waiting (Name name) = values name ∷ waiting
after_part values waiting Not = not (last_of waiting) ∷ but_last waiting
after_part values waiting (Join sign) = sign_value sign (last_of (but_last waiting)) (last_of waiting) ∷ but_last (but_last waiting)

-- and after all parts
abbrev pub after_parts : (List ℕ → Bool) → List Part → List Bool → List Bool
after_parts values [] waiting = waiting
after_parts values (own ∷ parts) waiting = after_parts values parts (after_part values waiting own)

-- the truth value of parts
abbrev pub truth_of : (List ℕ → Bool) → List Part → Bool
truth_of values parts = last_of (after_parts values parts [])

-- the parts of a formula have its truth value
abbrev pub TruthsAreOfFormulas : Type 0
TruthsAreOfFormulas = (values : List ℕ → Bool) (f : Formula) → truth_of values (postfix f) ≡ formula_value values f
