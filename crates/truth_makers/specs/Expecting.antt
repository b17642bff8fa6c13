-- An expectation under every valuation.
use Rattle.std.specs.Prelude.{◌≡◌, ◌↔◌, ℕ, Bool, true, false, List}
use Rattle.ternary.specs.declared.tern.Tern.{Tern}
use Rattle.ternary.specs.declared.tern.Tern.TheVariants.{Zero, One}
use Rattle.ternary.specs.Tern.{may_one, may_zero}
use Rattle.decision_graph.specs.declared.vertex.Vertex.{Vertex}
use Rattle.decision_graph.specs.Meaning.{holds}

-- the state that a truth value stands for
abbrev pub state_of_truth : Bool → Tern
state_of_truth true = One
state_of_truth false = Zero

-- under each valuation the function r doesn't hold exactly if the state with these rails is the wanted one
abbrev pub IsMissed : List Vertex → List Vertex → ℕ → ℕ → ℕ → ℕ → Type 0
IsMissed old new hi lo wanted r =
    (vars : ℕ → Bool) (state : Tern) → holds old vars hi ≡ may_one state → holds old vars lo ≡ may_zero state →
    (holds new vars r ≡ false) ↔ (state ≡ state_of_truth (holds old vars wanted))

-- under each valuation these are the rails of the state
abbrev pub IsStateOfAll : List Vertex → ℕ → ℕ → Tern → Type 0
IsStateOfAll vertices hi lo state = (vars : ℕ → Bool) → (holds vertices vars hi ≡ may_one state) × (holds vertices vars lo ≡ may_zero state)
