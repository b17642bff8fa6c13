-- What the making of a local graph asks of a group.
use Rattle.std.specs.Prelude.{◌≡◌, ℕ, ◌<◌, List, length, Contains, Some}
use Rattle.switch_paths.specs.declared.switching.Switch.{Switch}
use Rattle.switch_paths.specs.Graphs.{GraphData, place_at}

-- the nodes at the terminals of a switch are among these
pub record AreAmong (nodes : List ℕ) (switch : Switch) : Type 0 where
  pub gate : Contains nodes switch.gate
  pub a : Contains nodes switch.a
  pub b : Contains nodes switch.b

-- at a place stands a switch whose terminals are among these nodes
pub record StandsAmong (g : GraphData) (nodes : List ℕ) (place : ℕ) : Type 0 where
  pub inside : place < length g.places
  pub switch : Switch
  pub at_place : place_at g.places place ≡ Some switch
  pub among : AreAmong nodes switch
