-- What is put in places of a list.
use Rattle.std.specs.Prelude.{◌≡◌, ℕ, List, length, Contains, Some, slice_get}

-- the items were put in these places, and all others stay
pub record Puts {X : Type 0} (places : List ℕ) (items old new : List X) : Type 0 where
  pub count : length new ≡ length old
  pub put : (k : ℕ) → Contains places k → (i : ℕ) × (x : X) × (slice_get places i ≡ Some k) × (slice_get items i ≡ Some x) × (slice_get new k ≡ Some x)
  pub stays : (k : ℕ) → ¬ Contains places k → slice_get new k ≡ slice_get old k
