-- What a node starts with in a pass, place by place.
use Rattle.std.specs.Prelude.{◌≡◌, ℕ, min, Bool, true, List, Some}
use Rattle.ternary.specs.declared.tern.Tern.{Tern}
use Rattle.strength_order.specs.declared.TheConstants.{INPUT_LEVEL}
use Rattle.switch_paths.specs.declared.switching.Switch.{Switch}
use Rattle.switch_paths.specs.Switching.{state_at, switch_state_at}
use Rattle.switch_paths.specs.Graphs.{GraphData, level_of, place_at}
use Rattle.switch_paths.specs.Path.{Joins}
use Rattle.vicinity.specs.declared.pass.Pass.{Pass}
use Rattle.vicinity.specs.declared.pass.Pass.TheVariants.{Sure, One, Zero}
use Rattle.vicinity.specs.Entries.{crosses, own_strength, HasAbove}

-- a pass crosses a switch that isn't open: a sure one, if it is closed
abbrev pub is_crossed : Pass → Bool → Bool
is_crossed Sure closed = closed
is_crossed One closed = true
is_crossed Zero closed = true

-- the entry has what comes to the node over this place from an input node
abbrev pub HasEdge : Pass → GraphData → List Tern → ℕ → ℕ → ℕ → ℕ → Type 0
HasEdge pass g state node floor entry place =
    (other : ℕ) (switch : Switch) → place_at g.places place ≡ Some switch → Joins switch other node →
    level_of g other ≡ INPUT_LEVEL → crosses pass (switch_state_at state switch) ≡ true →
    HasAbove floor entry (min (own_strength pass (state_at state other) INPUT_LEVEL) switch.level)
