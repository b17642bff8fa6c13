-- A pool of its own for some formulas of a pool: the gates that they reach are copied, one to one, and there is no other.
use Rattle.std.specs.Prelude.{◌≡◌, ℕ, ◌<◌, ◌↔◌, Bool, List, length, map}
use Rattle.bool_pool.specs.declared.gate.Id.{Id}
use Rattle.bool_pool.specs.declared.gate.Gate.{Gate}
use Rattle.bool_pool.specs.declared.gate.Gate.TheVariants.{False, True, Var, Not, And, Or}
use Rattle.bool_pool.specs.Gate.{gate_at}
use Rattle.bool_pool.specs.Value.{value_at}
use Rattle.bool_pool.specs.Reach.{Reaches, AnyReaches}

-- the places of formulas
abbrev pub places_of : List Id → List ℕ
places_of ids = map (λ id. id.place) ids

-- the formula at its new place
abbrev pub moved_id : (ℕ → ℕ) → Id → Id
moved_id to id = record { place = to id.place }

-- the same gate over its operands' new places
abbrev pub moved_gate : (ℕ → ℕ) → Gate → Gate
moved_gate to False = False
moved_gate to True = True
moved_gate to (Var v) = Var v
moved_gate to (Not a) = Not (moved_id to a)
moved_gate to (And a b) = And (moved_id to a) (moved_id to b)
moved_gate to (Or a b) = Or (moved_id to a) (moved_id to b)

-- the new gates are those that the roots reach in the old list: each stands at its new place over its operands' new places,
-- no two at one place, and there is no other gate
pub record AreCopies (old : List Gate) (roots : List ℕ) (new : List Gate) (to : ℕ → ℕ) : Type 0 where
  pub inside : (i : ℕ) → AnyReaches old roots i → to i < length new
  pub gates : (i : ℕ) → AnyReaches old roots i → gate_at new (to i) ≡ moved_gate to (gate_at old i)
  pub apart : (i j : ℕ) → AnyReaches old roots i → AnyReaches old roots j → to i ≡ to j → i ≡ j
  pub from : (place : ℕ) → place < length new → (i : ℕ) × AnyReaches old roots i × (to i ≡ place)

-- the found formulas are the roots, in order, in a list of gates that are copies of what the roots reach. Each formula that a root
-- reaches keeps its value and reaches the copies of what it reached; each gate is reached by a found formula
pub record IsCompacted (old : List Gate) (roots : List Id) (new : List Gate) (found : List Id) : Type 0 where
  pub to : ℕ → ℕ
  pub moved : found ≡ map (moved_id to) roots
  pub copies : AreCopies old (places_of roots) new to
  pub values : (i : ℕ) → AnyReaches old (places_of roots) i → (vars : ℕ → Bool) → value_at new vars (to i) ≡ value_at old vars i
  pub reach : (i place : ℕ) → AnyReaches old (places_of roots) i →
      Reaches new (to i) place ↔ ((k : ℕ) × Reaches old i k × (to k ≡ place))
  pub used : (place : ℕ) → place < length new → AnyReaches new (places_of found) place
