-- How the gates that formulas reach are copied, from the least place up.
use Rattle.std.specs.Prelude.{◌≡◌, ℕ, ◌<◌, List, length, Option, Some, IsSome, Contains, unwrap_or}
use Rattle.bool_pool.specs.declared.gate.Id.{Id}
use Rattle.bool_pool.specs.declared.gate.Gate.{Gate}
use Rattle.bool_pool.specs.Gate.{gate_at, IsOperand}
use Rattle.bool_pool.specs.Compact.{moved_gate}

-- the new formula of a place
abbrev pub id_in : (ℕ → Option Id) → ℕ → Id
id_in ids place = unwrap_or (ids place) (record { place = 0 })

-- the new place of a place
abbrev pub place_in : (ℕ → Option Id) → ℕ → ℕ
place_in ids place = (id_in ids place).place

-- the gate at this place, one of the listed ones, was copied: the new formula has it over its operands' new places
pub record IsCopied (old : List Gate) (places : List ℕ) (new : List Gate) (to : ℕ → ℕ) (place made : ℕ) : Type 0 where
  pub listed : Contains places place
  pub inside : made < length new
  pub gate_is : gate_at new made ≡ moved_gate to (gate_at old place)
  pub operands : (k : ℕ) → IsOperand (gate_at old place) k → Contains places k

-- the gates at these places were copied, and no other
pub record AreCopied (old : List Gate) (places : List ℕ) (new : List Gate) (ids : ℕ → Option Id) : Type 0 where
  pub each : (place : ℕ) → Contains places place → IsSome (ids place)
  pub copies : (place : ℕ) (id : Id) → ids place ≡ Some id → IsCopied old places new (place_in ids) place id.place
  pub from : (made : ℕ) → made < length new → (place : ℕ) × Contains places place × (place_in ids place ≡ made)
