-- Where lists that join the rails begin: at a switch at Vdd from which the way down is shortest, within each group.
use Rattle.std.specs.Prelude.{◌≡◌, ℕ, ◌<◌, ◌≤◌, ◌⊎◌, ◌&&◌, ◌||◌, ◌==◌, nat_lt, nat_le, List, Contains, Option, Some, None, if◌then◌else◌}
use Rattle.switch_paths.specs.declared.TheConstants.{GND, VDD}
use Rattle.switch_paths.specs.Graphs.{GraphData}
use Rattle.group_meaning.specs.Groups.{Group}
use Rattle.circuit_lint.specs.declared.starts.Start.{Start}
use Rattle.circuit_lint.specs.Conducting.{IsClosedAcross}
use Rattle.circuit_lint.specs.Distances.{distance_at}

-- the switch at the place leads from Vdd to a node that is so far from Gnd
pub record IsStartAt (g : GraphData) (distance : List (Option ℕ)) (place far : ℕ) : Type 0 where
  pub node : ℕ
  pub enters : IsClosedAcross g place VDD node
  pub far_is : distance_at distance node ≡ Some far

-- a start is nearer than another, or as near and not behind it
abbrev pub GoesFirst : Start → ℕ → ℕ → Type 0
GoesFirst start place far = (start.distance < far) ⊎ ((start.distance ≡ far) × (start.place ≤ place))

-- of the starts at these places it is the first
pub record IsFirstStart (g : GraphData) (distance : List (Option ℕ)) (places : List ℕ) (start : Start) : Type 0 where
  pub among : Contains places start.place
  pub is : IsStartAt g distance start.place start.distance
  pub first : (place far : ℕ) → Contains places place → IsStartAt g distance place far → GoesFirst start place far

-- there is none at these places, or this is the first of them
abbrev pub FindsStart : GraphData → List (Option ℕ) → List ℕ → Option Start → Type 0
FindsStart g distance places None = (place far : ℕ) → Contains places place → ¬ IsStartAt g distance place far
FindsStart g distance places (Some start) = IsFirstStart g distance places start

-- the sooner of two starts: the nearer one, or of equally near ones the one of the lower place
abbrev pub sooner_of : Start → Start → Start
sooner_of first second =
    if nat_lt first.distance second.distance || ((first.distance == second.distance) && nat_le first.place second.place) then first else second

-- and where there may be none
abbrev pub soonest : Option Start → Option Start → Option Start
soonest (Some first) (Some second) = Some (sooner_of first second)
soonest (Some first) None = Some first
soonest None second = second

-- at the place begins the list of one of these groups
abbrev pub BeginsIn : GraphData → List (Option ℕ) → List Group → ℕ → Type 0
BeginsIn g distance groups place =
    (group : Group) × Contains groups group × ((start : Start) × IsFirstStart g distance group.switches start × (start.place ≡ place))

-- at the place begins the list of a group, or one that is a switch alone
abbrev pub BeginsShort : GraphData → List (Option ℕ) → List Group → ℕ → Type 0
BeginsShort g distance groups place =
    IsClosedAcross g place VDD GND ⊎ BeginsIn g distance groups place

-- these are the places at which lists begin; a group with some start has a first one
pub record AreStarts (g : GraphData) (distance : List (Option ℕ)) (groups : List Group) (starts : List ℕ) : Type 0 where
  pub only : (place : ℕ) → Contains starts place → BeginsShort g distance groups place
  pub all : (place : ℕ) → BeginsShort g distance groups place → Contains starts place
  pub some : (group : Group) (place far : ℕ) → Contains groups group → Contains group.switches place → IsStartAt g distance place far →
      (start : Start) × IsFirstStart g distance group.switches start

-- the starts of these groups were added; a group with some start has a first one
pub record AddsStarts (g : GraphData) (distance : List (Option ℕ)) (groups : List Group) (old new : List ℕ) : Type 0 where
  pub kept : (place : ℕ) → Contains old place → Contains new place
  pub only : (place : ℕ) → Contains new place → Contains old place ⊎ BeginsIn g distance groups place
  pub all : (place : ℕ) → BeginsIn g distance groups place → Contains new place
  pub some : (group : Group) (place far : ℕ) → Contains groups group → Contains group.switches place → IsStartAt g distance place far →
      (start : Start) × IsFirstStart g distance group.switches start
