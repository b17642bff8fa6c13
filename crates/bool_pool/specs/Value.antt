-- The truth value of a formula, under truth values for all variables.
use Rattle.std.specs.Prelude.{ℕ, Bool, true, false, not, ◌&&◌, ◌||◌, List, [], ◌∷◌, ◌++◌, fold, slice_index_or}
use Rattle.bool_pool.specs.declared.gate.Gate.{Gate}
use Rattle.bool_pool.specs.declared.gate.Gate.TheVariants.{False, True, Var, Not, And, Or}

-- the truth values that a list gives the variables: one past its end is false
abbrev pub assigned : List Bool → ℕ → Bool
assigned vars v = slice_index_or vars v false

-- the value of a gate, from the values of the variables and of the formulas at its operands' places
abbrev pub gate_value : (ℕ → Bool) → (ℕ → Bool) → Gate → Bool
gate_value vars at_place False = false
gate_value vars at_place True = true
gate_value vars at_place (Var v) = vars v
gate_value vars at_place (Not a) = not (at_place a.place)
gate_value vars at_place (And a b) = at_place a.place && at_place b.place
gate_value vars at_place (Or a b) = at_place a.place || at_place b.place

-- the values of some gates, and then that of the gate that follows them
unfoldable pub with_value : (ℕ → Bool) → List Bool → Gate → List Bool
with_value vars done gate = done ++ gate_value vars (λ i. slice_index_or done i false) gate ∷ []

-- the values of all gates, in order of place
unfoldable pub values : List Gate → (ℕ → Bool) → List Bool
values gates vars = fold (with_value vars) [] gates

-- the value of the formula at a place
unfoldable pub value_at : List Gate → (ℕ → Bool) → ℕ → Bool
value_at gates vars i = slice_index_or (values gates vars) i false
