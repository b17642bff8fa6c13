-- The gates of a pool. A gate's place is its index in the pool's list.
use Rattle.std.specs.Prelude.{◌≡◌, ℕ, ◌<◌, ◌≤◌, ◌⊎◌, Bool, true, false, List, [], ◌∷◌, ◌++◌, length, slice_index_or}
use Rattle.bool_pool.specs.declared.gate.Gate.{Gate}
use Rattle.bool_pool.specs.declared.gate.Gate.TheVariants.{False, True, Var, Not, And, Or}

-- the gate at a place; past the last gate stands False
abbrev pub gate_at : List Gate → ℕ → Gate
gate_at gates i = slice_index_or gates i False

-- the gate of a constant
abbrev pub constant_gate : Bool → Gate
constant_gate false = False
constant_gate true = True

-- the gate has the formula at this place as an operand
abbrev pub IsOperand : Gate → ℕ → Type 0
IsOperand False k = ⊥
IsOperand True k = ⊥
IsOperand (Var v) k = ⊥
IsOperand (Not a) k = k ≡ a.place
IsOperand (And a b) k = (k ≡ a.place) ⊎ (k ≡ b.place)
IsOperand (Or a b) k = (k ≡ a.place) ⊎ (k ≡ b.place)

-- the gate is an And, an Or or a Not: these are counted
abbrev pub IsOperation : Gate → Type 0
IsOperation False = ⊥
IsOperation True = ⊥
IsOperation (Var v) = ⊥
IsOperation (Not a) = Unit {0}
IsOperation (And a b) = Unit {0}
IsOperation (Or a b) = Unit {0}

-- the gate is this variable
abbrev pub IsVariable : Gate → ℕ → Type 0
IsVariable gate v = gate ≡ Var v

-- each gate stands behind its operands
abbrev pub IsInOrder : List Gate → Type 0
IsInOrder gates = (i k : ℕ) → IsOperand (gate_at gates i) k → k < i

-- no two gates are equal
abbrev pub IsApart : List Gate → Type 0
IsApart gates = (i j : ℕ) → i < length gates → j < length gates → gate_at gates i ≡ gate_at gates j → i ≡ j

-- the new list is at least as long, and each gate of the old one keeps its place
pub record Extends (old new : List Gate) : Type 0 where
  pub longer : length old ≤ length new
  pub kept : (i : ℕ) → i < length old → gate_at new i ≡ gate_at old i

-- no gate was added, or one: that at the place r
abbrev pub AddsAt : List Gate → List Gate → ℕ → Type 0
AddsAt old new r = (new ≡ old) ⊎ ((r ≡ length old) × (new ≡ old ++ gate_at new r ∷ []))
