-- A switch at a node, seen from the node: where it leads, and what it lets through.
-- After Bryant, "A Switch-Level Model and Simulator for MOS Digital Systems", 1984.
use Rattle.std.specs.Prelude.{◌≡◌, ℕ, List, true, Contains, Some}
use Rattle.vicinity.specs.Lists.{LiveListData, places_of}
use Rattle.ternary.specs.declared.tern.Tern.{Tern}
use Rattle.switch_paths.specs.declared.switching.Switch.{Switch}
use Rattle.switch_paths.specs.Switching.{is_closed, is_live, switch_state_at}
use Rattle.switch_paths.specs.Graphs.{GraphData, place_at}
use Rattle.switch_paths.specs.Path.{Joins}
use Rattle.vicinity.specs.declared.arms.Arm.{Arm}

-- the switch at the place leads from the node to the arm's other end, isn't open, and has the arm's level; the arm tells whether it is closed
pub record IsArm (g : GraphData) (state : List Tern) (place node : ℕ) (arm : Arm) : Type 0 where
  pub switch : Switch
  pub at_place : place_at g.places place ≡ Some switch
  pub joins : Joins switch node arm.other
  pub live : is_live (switch_state_at state switch) ≡ true
  pub level : arm.level ≡ switch.level
  pub closed : arm.closed ≡ is_closed (switch_state_at state switch)

-- an arm at this place leads from the node to the other one
pub record LeadsTo (g : GraphData) (state : List Tern) (place node other : ℕ) : Type 0 where
  pub switch : Switch
  pub at_place : place_at g.places place ≡ Some switch
  pub joins : Joins switch node other
  pub live : is_live (switch_state_at state switch) ≡ true

-- at each node the places are listed at least whose switches aren't open and have an end there
abbrev pub ListsLive : GraphData → List Tern → List LiveListData → Type 0
ListsLive g state lists = (place node other : ℕ) → LeadsTo g state place node other → Contains (places_of lists node) place
