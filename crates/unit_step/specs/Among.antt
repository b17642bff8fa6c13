-- A node that is placed while some parts alone may be marked.
use Rattle.std.specs.Prelude.{◌≡◌, ℕ, ◌⊎◌, Bool, List, length, slice_set}
use Rattle.ternary.specs.declared.tern.Tern.{Tern}
use Rattle.machine_parts.specs.Marking.{IsMarked}
use Rattle.machine_parts.specs.Stepping.{Concerns}
use Rattle.wide_groups.specs.Moving.{PlacesIn}
use Rattle.machine_laws.specs.Machines.{MachineData, KeepsBuild, KeepsParts}

-- a node has the value, of these parts those are marked that it concerns, and all else stays
pub record PlacesAmong (node : ℕ) (value : Tern) (among : List Bool) (old new : MachineData) : Type 0 where
  pub state : new.state ≡ slice_set old.state node value
  pub count : length new.marks ≡ length old.marks
  pub stays : (k : ℕ) → IsMarked old.marks k → IsMarked new.marks k
  pub concerns : (k : ℕ) → Concerns old.parts k node → IsMarked among k → IsMarked new.marks k
  pub only : (k : ℕ) → IsMarked new.marks k → IsMarked old.marks k ⊎ (Concerns old.parts k node × IsMarked among k)
  pub wide : PlacesIn node old.wide new.wide old.state new.state
  pub build : KeepsBuild old new
  pub held : KeepsParts old new
  pub moves : new.moves ≡ old.moves
  pub placed : new.placed ≡ old.placed
