-- A state that moved, and the nodes at which it may have changed; and one that grew.
use Rattle.std.specs.Prelude.{◌≡◌, ◌≢◌, ℕ, ◌<◌, List, ◌++◌, length, replicate, Contains}
use Rattle.ternary.specs.declared.tern.Tern.{Tern}
use Rattle.ternary.specs.declared.tern.Tern.TheVariants.{Unk}
use Rattle.switch_paths.specs.Switching.{state_at}

-- every node at which two states differ is listed, once or more, and no place is listed that is no node
pub record ListsChanges (nodes : List ℕ) (old new : List Tern) : Type 0 where
  pub count : length new ≡ length old
  pub each : (node : ℕ) → node < length old → state_at new node ≢ state_at old node → Contains nodes node
  pub inside : (node : ℕ) → Contains nodes node → node < length old

-- nodes that are new stand behind the others, each X
abbrev pub IsGrown : List Tern → List Tern → Type 0
IsGrown old new = (more : ℕ) × (new ≡ old ++ replicate more Unk)
