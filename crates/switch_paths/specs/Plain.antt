-- The plain step: its room, as contracts see it, and its tables, which have one strength for each node.
use Rattle.std.specs.Prelude.{◌≡◌, ℕ, ◌<◌, ◌≤◌, ◌↔◌, nat_le, Bool, true, ◌&&◌, if◌then◌else◌, List, length, slice_index}
use Rattle.ternary.specs.declared.tern.Tern.{Tern}
use Rattle.switch_paths.specs.Switching.{state_at}
use Rattle.switch_paths.specs.Graphs.{GraphData, nodes}
use Rattle.switch_paths.specs.Path.{LivePath, Stand}
use Rattle.switch_paths.specs.Step.{Responds}
use Rattle.switch_paths.specs.Spread.{rail_of}

-- for how many nodes and places the room was made
pub record PlainRoomData : Type 0 where
  pub nodes : ℕ
  pub places : ℕ

-- the table has for each node the strength of its strongest definite path
pub record AreStrongest (g : GraphData) (state : List Tern) (best : List ℕ) : Type 0 where
  pub found : (n : ℕ) → n < nodes g →
      (root : ℕ) × (hops : List ℕ) × (there : Stand) × LivePath g state root hops there ×
      (there.node ≡ n) × (there.definite ≡ true) × (there.strength ≡ slice_index best n)
  pub most : (root : ℕ) (hops : List ℕ) (there : Stand) → LivePath g state root hops there → there.definite ≡ true →
      there.strength ≤ slice_index best there.node

-- the strength with which a node starts a path of its own: its level, if its state has the rail and nothing
-- stronger comes to it
abbrev pub root_entry : Bool → Tern → ℕ → ℕ → ℕ
root_entry one state level best = if rail_of one state && nat_le best level then level else 0

-- the table starts with the roots of unblocked empty paths, under this rail
abbrev pub AreRoots : Bool → List Tern → List ℕ → List ℕ → List ℕ → Type 0
AreRoots one state levels best table =
    (n : ℕ) → n < length levels → slice_index table n ≡ root_entry one (state_at state n) (slice_index levels n)
    (slice_index best n)

-- the table has an entry exactly for each node whose steady state has the rail
abbrev pub AreReached : Bool → GraphData → List Tern → List ℕ → Type 0
AreReached one g state table =
    (n : ℕ) → n < nodes g → (0 < slice_index table n) ↔ Responds (rail_of one) g state n
