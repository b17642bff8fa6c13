-- Switches that the rails alone decide: Vdd is 1 and Gnd is 0 in each state, so a gate at a rail closes its switch always or never.
use Rattle.std.specs.Prelude.{◌≡◌, ℕ, Bool, true, false, ◌==◌, Some}
use Rattle.switch_paths.specs.declared.switching.SwitchKind.{SwitchKind}
use Rattle.switch_paths.specs.declared.switching.SwitchKind.TheVariants.{NChan, PChan, Always}
use Rattle.switch_paths.specs.declared.switching.Switch.{Switch}
use Rattle.switch_paths.specs.declared.TheConstants.{GND, VDD}
use Rattle.switch_paths.specs.Graphs.{GraphData, place_at}
use Rattle.switch_paths.specs.Path.{Joins}

-- what holds of a depletion switch, and of an n-channel and of a p-channel one if its gate is this node
abbrev pub is_kept : SwitchKind → ℕ → Bool → ℕ → ℕ → Bool
is_kept Always gate always nchan pchan = always
is_kept NChan gate always nchan pchan = gate == nchan
is_kept PChan gate always nchan pchan = gate == pchan

-- a depletion switch is closed always, an n-channel one by Vdd, and a p-channel one by Gnd
abbrev pub closes_always : SwitchKind → ℕ → Bool
closes_always kind gate = is_kept kind gate true VDD GND

-- an n-channel switch is never closed with Gnd as its gate, nor a p-channel one with Vdd
abbrev pub closes_never : SwitchKind → ℕ → Bool
closes_never kind gate = is_kept kind gate false GND VDD

-- a switch is always closed by its kind and its gate
abbrev pub is_always_closed : Switch → Bool
is_always_closed switch = closes_always switch.kind switch.gate

-- or never
abbrev pub is_never_closed : Switch → Bool
is_never_closed switch = closes_never switch.kind switch.gate

-- at the place stands an always closed switch with one end at each of the two nodes
pub record IsClosedAcross (g : GraphData) (place m n : ℕ) : Type 0 where
  pub switch : Switch
  pub at_place : place_at g.places place ≡ Some switch
  pub joins : Joins switch m n
  pub closed : is_always_closed switch ≡ true
