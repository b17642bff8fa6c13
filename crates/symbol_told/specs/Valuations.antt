-- The variables of a valuation, as they are told one by one.
use Rattle.std.specs.Prelude.{ℕ, Bool, true, false, List, [], ◌∷◌, codes}
use Rattle.symbol_meaning.specs.Told.{variable_text}

-- there is a variable
abbrev pub are_some : List (List ℕ × Bool) → Bool
are_some [] = false
are_some (own ∷ others) = true

-- the variable is 1
abbrev pub is_one : List ℕ × Bool → Bool
is_one own = own.1

-- a variable, if it is 1
abbrev pub one_text : List ℕ × Bool → List ℕ
one_text (name, true) = variable_text (name, true)
one_text (name, false) = []

-- ` -`, unless there is a variable that is 1
abbrev pub dash_unless : Bool → List ℕ
dash_unless true = []
dash_unless false = codes " -"
