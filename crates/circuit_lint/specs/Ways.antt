-- Ways down from Vdd, switch by switch: each step goes over the first switch from which the rest is shortest.
use Rattle.std.specs.Prelude.{◌≡◌, ℕ, ◌<◌, ◌≤◌, List, [], ◌∷◌, ◌++◌, length, map, slice_index, slice_index_or, Contains, Option, Some, Vec}
use Rattle.std.specs.declared.alloc.Global.{Global}
use Rattle.switch_paths.specs.declared.TheConstants.{VDD}
use Rattle.switch_paths.specs.Graphs.{GraphData}
use Rattle.circuit_lint.specs.Conducting.{IsClosedAcross}
use Rattle.circuit_lint.specs.Distances.{distance_at, IsFirstDown}

-- what each of these lists holds
abbrev pub lists_of : List (Vec ℕ Global) → List (List ℕ)
lists_of ways = map (λ way. way.items) ways

-- the switch at the place leads from the node to the next one, which is so far from Gnd
pub record IsStep (g : GraphData) (distance : List (Option ℕ)) (node left place next : ℕ) : Type 0 where
  pub joins : IsClosedAcross g place node next
  pub far : distance_at distance next ≡ Some left

-- and of these places it is the first that does
pub record IsFirstStep (g : GraphData) (distance : List (Option ℕ)) (places : List ℕ) (node left place next : ℕ) : Type 0 where
  pub among : Contains places place
  pub step : IsStep g distance node left place next
  pub first : (other there : ℕ) → Contains places other → IsStep g distance node left other there → place ≤ other

-- the first of the shortest ways down from the node was put behind the list
pub record GoesDown (g : GraphData) (node : ℕ) (old new : List ℕ) : Type 0 where
  pub rest : List ℕ
  pub grown : new ≡ old ++ rest
  pub is : IsFirstDown g node rest

-- steps that lead from a node to another were put behind the list; with the first way down from there they are the first way down
pub record IsPartDown (g : GraphData) (from node : ℕ) (old new : List ℕ) : Type 0 where
  pub steps : List ℕ
  pub grown : new ≡ old ++ steps
  pub goes_on : (rest : List ℕ) → IsFirstDown g node rest → IsFirstDown g from (steps ++ rest)

-- the list begins at the place, and goes on with the first of the shortest ways down
pub record IsWayFrom (g : GraphData) (place : ℕ) (way : List ℕ) : Type 0 where
  pub node : ℕ
  pub enters : IsClosedAcross g place VDD node
  pub rest : List ℕ
  pub splits : way ≡ place ∷ rest
  pub is : IsFirstDown g node rest

-- these lists begin at these places, in their order
pub record AreWays (g : GraphData) (starts : List ℕ) (ways : List (List ℕ)) : Type 0 where
  pub count : length ways ≡ length starts
  pub each : (k : ℕ) → k < length starts → IsWayFrom g (slice_index starts k) (slice_index_or ways k [])
