-- Parts that come behind the others, with their marks.
use Rattle.std.specs.Prelude.{◌≡◌, ℕ, ◌<◌, ◌≤◌, Bool, List, length}
use Rattle.machine_parts.specs.Marking.{IsMarked}

-- there are so many marks, if there weren't more: those that were set stay, and those that came are set
pub record AddsMarked (parts : ℕ) (old new : List Bool) : Type 0 where
  pub count : length old ≤ parts → length new ≡ parts
  pub stays : (k : ℕ) → IsMarked old k → IsMarked new k
  pub later : (k : ℕ) → length old ≤ k → k < length new → IsMarked new k
