-- Lists of the places at the nodes of a graph, with those in front whose switches aren't open, and how they turn with their gates.
-- After Bryant, "A Switch-Level Model and Simulator for MOS Digital Systems", 1984.
use Rattle.std.specs.Prelude.{◌≡◌, ◌≢◌, ℕ, ◌<◌, ◌⊎◌, ◌↔◌, Bool, true, false, List, length, Contains, Some}
use Rattle.std.specs.List.Sorted.{IsPermutation}
use Rattle.ternary.specs.declared.tern.Tern.{Tern}
use Rattle.switch_paths.specs.declared.switching.Switch.{Switch}
use Rattle.switch_paths.specs.Switching.{is_live, state_by}
use Rattle.switch_paths.specs.Graphs.{GraphData, nodes, place_at}
use Rattle.switch_paths.specs.Path.{Joins}
use Rattle.vicinity.specs.Lists.{LiveListData, LiveListsData, places_of, all_at}
use Rattle.vicinity.specs.Arms.{LeadsTo}

-- the switch at the place has an end at the node
pub record HasEnd (g : GraphData) (place node : ℕ) : Type 0 where
  pub switch : Switch
  pub at_place : place_at g.places place ≡ Some switch
  pub other : ℕ
  pub joins : Joins switch node other

-- the switch at the place has the node as its gate
pub record HasGate (g : GraphData) (place node : ℕ) : Type 0 where
  pub switch : Switch
  pub at_place : place_at g.places place ≡ Some switch
  pub gated : switch.gate ≡ node

-- at each node those places stand in front whose switches have an end there and aren't open, behind them those whose switches are; and at each
-- gate the places of its switches
pub record AreListsOf (g : GraphData) (state : List Tern) (lists : LiveListsData) : Type 0 where
  pub count : length lists.ends ≡ nodes g
  pub live : (node place : ℕ) → Contains (places_of lists.ends node) place ↔ ((other : ℕ) × LeadsTo g state place node other)
  pub whole : (node place : ℕ) → Contains (all_at lists.ends node) place ↔ HasEnd g place node
  pub gated : (node place : ℕ) → Contains (places_of lists.gates node) place ↔ HasGate g place node

-- the place came to the front, if it is in the list, or left it; all other places are in front or behind as before
pub record TurnsIn (live : Bool) (place : ℕ) (old new : LiveListData) : Type 0 where
  pub permutes : IsPermutation old.all new.all
  pub among : (q : ℕ) → Contains old.items q → Contains old.all q
  pub front : live ≡ true → Contains old.all place → Contains new.items place
  pub behind : live ≡ false → ¬ Contains new.items place
  pub kept : (q : ℕ) → q ≢ place → Contains old.items q → Contains new.items q
  pub only : (q : ℕ) → q ≢ place → Contains new.items q → Contains old.items q

-- at one node a place came to the front or left it, and all other nodes' lists stay
pub record TurnsAtNode (live : Bool) (place node : ℕ) (old new : List LiveListData) : Type 0 where
  pub count : length new ≡ length old
  pub all : (n q : ℕ) → Contains (all_at new n) q ↔ Contains (all_at old n) q
  pub front : live ≡ true → Contains (all_at old node) place → Contains (places_of new node) place
  pub behind : live ≡ false → ¬ Contains (places_of new node) place
  pub kept : (n q : ℕ) → (q ≢ place) ⊎ (live ≡ true) → Contains (places_of old n) q → Contains (places_of new n) q
  pub only : (n q : ℕ) → Contains (places_of new n) q → Contains (places_of old n) q ⊎ ((n ≡ node) × (q ≡ place) × (live ≡ true))

-- if this node is the gate of the switch at the place, the switch isn't open under this state of it
abbrev pub IsLiveBy : GraphData → ℕ → Tern → ℕ → Type 0
IsLiveBy g gate now place =
    (switch : Switch) → place_at g.places place ≡ Some switch → switch.gate ≡ gate → is_live (state_by switch.kind now) ≡ true

-- the switch at the place has an end at the node and this gate, under whose state it isn't open
pub record ComesLive (g : GraphData) (gate : ℕ) (now : Tern) (place node : ℕ) : Type 0 where
  pub switch : Switch
  pub at_place : place_at g.places place ≡ Some switch
  pub gated : switch.gate ≡ gate
  pub other : ℕ
  pub joins : Joins switch node other
  pub live : is_live (state_by switch.kind now) ≡ true

-- of these places those came to the front whose switches this gate made conduct, and those left it whose switches it opened; all others stay in
-- front or behind. The gate went from the one state to the other.
pub record TurnsGate (g : GraphData) (gate : ℕ) (was now : Tern) (These : ℕ → Type 0) (old new : List LiveListData) : Type 0 where
  pub count : length new ≡ length old
  pub all : (n q : ℕ) → Contains (all_at new n) q ↔ Contains (all_at old n) q
  pub kept : (n q : ℕ) → IsLiveBy g gate now q → Contains (places_of old n) q → Contains (places_of new n) q
  pub only : (n q : ℕ) → Contains (places_of new n) q → Contains (places_of old n) q ⊎ ComesLive g gate now q n
  pub front : (q n other : ℕ) (switch : Switch) → These q → place_at g.places q ≡ Some switch → switch.gate ≡ gate → Joins switch n other →
      is_live (state_by switch.kind now) ≡ true → is_live (state_by switch.kind was) ≡ false → Contains (all_at old n) q → Contains (places_of new n) q
  pub behind : (q n other : ℕ) (switch : Switch) → These q → place_at g.places q ≡ Some switch → switch.gate ≡ gate → Joins switch n other →
      is_live (state_by switch.kind now) ≡ false → is_live (state_by switch.kind was) ≡ true → ¬ Contains (places_of new n) q

-- a new place stands at the end of a list or, if it is live, in front
pub record AddsIn (live : Bool) (place : ℕ) (old new : LiveListData) : Type 0 where
  pub all : (q : ℕ) → Contains new.all q ↔ (Contains old.all q ⊎ (q ≡ place))
  pub items : (q : ℕ) → Contains new.items q ↔ (Contains old.items q ⊎ ((q ≡ place) × (live ≡ true)))

-- a new place stands in the list of one node, in front if it is live
pub record AddsAt (live : Bool) (place node : ℕ) (old new : List LiveListData) : Type 0 where
  pub count : length new ≡ length old
  pub all : (n q : ℕ) → Contains (all_at new n) q ↔ (Contains (all_at old n) q ⊎ ((n ≡ node) × (q ≡ place)))
  pub items : (n q : ℕ) → Contains (places_of new n) q ↔ (Contains (places_of old n) q ⊎ ((n ≡ node) × (q ≡ place) × (live ≡ true)))

-- a new place stands in the lists of both ends of its switch, in front if it is live
pub record AddsEnds (live : Bool) (place : ℕ) (switch : Switch) (old new : List LiveListData) : Type 0 where
  pub count : length new ≡ length old
  pub all : (n q : ℕ) → Contains (all_at new n) q ↔ (Contains (all_at old n) q ⊎ (((n ≡ switch.a) ⊎ (n ≡ switch.b)) × (q ≡ place)))
  pub items : (n q : ℕ) → Contains (places_of new n) q ↔ (Contains (places_of old n) q ⊎ (((n ≡ switch.a) ⊎ (n ≡ switch.b)) × (q ≡ place) × (live ≡ true)))

-- the first places are listed, so many of them, at their ends and at their gates
pub record AreListedBelow (g : GraphData) (state : List Tern) (count : ℕ) (ends gates : List LiveListData) : Type 0 where
  pub counted : length ends ≡ nodes g
  pub gates_counted : length gates ≡ nodes g
  pub live : (node place : ℕ) → Contains (places_of ends node) place ↔ ((place < count) × ((other : ℕ) × LeadsTo g state place node other))
  pub whole : (node place : ℕ) → Contains (all_at ends node) place ↔ ((place < count) × HasEnd g place node)
  pub gated : (node place : ℕ) → Contains (places_of gates node) place ↔ ((place < count) × HasGate g place node)
  pub all_gated : (node place : ℕ) → Contains (all_at gates node) place → place < count
