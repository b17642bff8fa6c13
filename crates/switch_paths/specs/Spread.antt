-- Tables of strengths, one for each node, and what spreads in them over the switches of the places.
-- After the relaxation in Bryant, "A Switch-Level Model and Simulator for MOS Digital Systems", 1984.
use Rattle.std.specs.Prelude.{◌≡◌, ℕ, ◌-◌, ◌<◌, ◌≤◌, min, Bool, true, false, if◌then◌else◌, List, length, sum_by, Option, Some, None, slice_index}
use Rattle.ternary.specs.declared.tern.Tern.{Tern}
use Rattle.ternary.specs.Tern.{may_one, may_zero}
use Rattle.switch_paths.specs.declared.switching.Switch.{Switch}
use Rattle.switch_paths.specs.declared.switching.SwitchState.{SwitchState}
use Rattle.switch_paths.specs.Switching.{is_closed, is_live, switch_state_at}
use Rattle.switch_paths.specs.Graphs.{place_at}
use Rattle.switch_paths.specs.Path.{Joins}

-- a sure path crosses closed switches alone, any other path each switch that isn't open
abbrev pub passes : Bool → SwitchState → Bool
passes true switch = is_closed switch
passes false switch = is_live switch

-- the most that a place lets through: its switch's level where that switch passes, else nothing
abbrev pub width : Bool → List Tern → Option Switch → ℕ
width sure state None = 0
width sure state (Some switch) = if passes sure (switch_state_at state switch) then switch.level else 0

-- the table has for each place the most that the place lets through
abbrev pub AreWidths : Bool → List Tern → List (Option Switch) → List ℕ → Type 0
AreWidths sure state places widths =
    (place : ℕ) → place < length places → slice_index widths place ≡ width sure state (place_at places place)

-- a strength comes to a node where it stands there at the start, or where it is what a place lets through of a
-- strength that came to the switch's other end, and the floor of the node isn't above it
pub data Comes (places : List (Option Switch)) (widths floor start : List ℕ) : ℕ → ℕ → Type 0 where
  starts : (n : ℕ) → 0 < slice_index start n → Comes places widths floor start n (slice_index start n)
  crosses : (m strength : ℕ) → Comes places widths floor start m strength → (place n : ℕ) (switch : Switch) →
      place_at places place ≡ Some switch → Joins switch m n → 0 < slice_index widths place →
      slice_index floor n ≤ min strength (slice_index widths place) →
      Comes places widths floor start n (min strength (slice_index widths place))

-- each strength of the table came to its node
abbrev pub AllCome : List (Option Switch) → List ℕ → List ℕ → List ℕ → List ℕ → Type 0
AllCome places widths floor start table =
    (n : ℕ) → 0 < slice_index table n → Comes places widths floor start n (slice_index table n)

-- no entry of the table falls
abbrev pub Grows : List ℕ → List ℕ → Type 0
Grows old new = (n : ℕ) → slice_index old n ≤ slice_index new n

-- nothing more comes from m to n over a place of this width
abbrev pub IsSpreadOver : List ℕ → List ℕ → ℕ → ℕ → ℕ → Type 0
IsSpreadOver floor table width m n =
    slice_index floor n ≤ min (slice_index table m) width → min (slice_index table m) width ≤ slice_index table n

-- nothing more comes from end to end over a switch with this width
abbrev pub IsSpreadAcross : List ℕ → List ℕ → ℕ → Switch → Type 0
IsSpreadAcross floor table width switch =
    IsSpreadOver floor table width switch.a switch.b × IsSpreadOver floor table width switch.b switch.a

-- nothing more comes over what stands at a place of this width
abbrev pub IsSpreadAt : List ℕ → List ℕ → ℕ → Option Switch → Type 0
IsSpreadAt floor table width None = Unit {0}
IsSpreadAt floor table width (Some switch) = IsSpreadAcross floor table width switch

-- nothing more comes over the first places, so many of them
abbrev pub IsSpreadBelow : List (Option Switch) → List ℕ → List ℕ → ℕ → List ℕ → Type 0
IsSpreadBelow places widths floor count table =
    (place : ℕ) → place < count → IsSpreadAt floor table (slice_index widths place) (place_at places place)

-- nothing more comes over any place
abbrev pub IsSpread : List (Option Switch) → List ℕ → List ℕ → List ℕ → Type 0
IsSpread places widths floor table = IsSpreadBelow places widths floor (length places) table

-- how much the entries of a table can still rise
abbrev pub room_left : List ℕ → ℕ
room_left table = sum_by (λ strength. 255 - strength) table

-- the rail "may be 1" or the rail "may be 0" of a state
abbrev pub rail_of : Bool → Tern → Bool
rail_of true = may_one
rail_of false = may_zero
