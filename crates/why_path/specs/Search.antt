-- The search for reasons: a list of found nodes, each with a strength with which an unblocked path from a root
-- that has the rail leads to it. A node is found once, from an earlier place of the list.
use Rattle.std.specs.Prelude.{◌≡◌, ℕ, ◌+◌, ◌<◌, ◌≤◌, ◌↔◌, Bool, true, false, List, [], ◌∷◌, ◌++◌, length, sum_by, slice_get, slice_index, Contains, Option, Some, None, Vec}
use Rattle.std.specs.Option.{option_map_or}
use Rattle.std.specs.declared.alloc.Global.{Global}
use Rattle.ternary.specs.declared.tern.Tern.{Tern}
use Rattle.switch_paths.specs.declared.switching.Switch.{Switch}
use Rattle.switch_paths.specs.Switching.{state_at}
use Rattle.switch_paths.specs.Graphs.{GraphData, nodes, level_of, place_at}
use Rattle.switch_paths.specs.Path.{Stand, Hop}
use Rattle.why_path.specs.declared.search.Found.{Found}
use Rattle.why_path.specs.declared.search.Last.{Last}

-- the places that a list has for a node
abbrev pub list_at : List (Vec ℕ Global) → ℕ → List ℕ
list_at lists node = option_map_or (λ list. list.items) (slice_get lists node) []

-- these are all numbers below a count, in any order
abbrev pub AreAllBelow : ℕ → List ℕ → Type 0
AreAllBelow count numbers = (number : ℕ) → Contains numbers number ↔ (number < count)

-- each switch's place is in the lists of both its ends
abbrev pub HaveSwitches : GraphData → List (Vec ℕ Global) → Type 0
HaveSwitches g lists =
    (place : ℕ) (switch : Switch) → place_at g.places place ≡ Some switch →
    Contains (list_at lists switch.a) place × Contains (list_at lists switch.b) place

-- where a path stands by which this node was found
abbrev pub stand_at : Found → Stand
stand_at entry = record { node = entry.node; strength = entry.strength; definite = true }

-- the empty path of the node is unblocked, and its state has the rail
pub record IsRoot (rail : Tern → Bool) (g : GraphData) (state : List Tern) (best : List ℕ) (node : ℕ) : Type 0 where
  pub in_range : node < nodes g
  pub set : rail (state_at state node) ≡ true
  pub unbeaten : slice_index best node ≤ level_of g node

-- it is so, and the node has this level
pub record IsRootOf (rail : Tern → Bool) (g : GraphData) (state : List Tern) (best : List ℕ) (strength node : ℕ) : Type 0 where
  pub root : IsRoot rail g state best node
  pub level : level_of g node ≡ strength

-- a hop over this place leads from the one entry to the other's node, where nothing stronger leads
pub record IsFoundOver (g : GraphData) (state : List Tern) (best : List ℕ) (from : Found) (place : ℕ) (entry : Found) : Type 0 where
  pub there : Stand
  pub hop : Hop g state (stand_at from) place there
  pub ends : there.node ≡ entry.node
  pub strong : entry.strength ≤ there.strength
  pub unbeaten : slice_index best entry.node ≤ entry.strength

-- the entry was found as a root
pub record IsFoundAtRoot (rail : Tern → Bool) (g : GraphData) (state : List Tern) (best : List ℕ) (entry : Found) : Type 0 where
  pub root : IsRoot rail g state best entry.node
  pub strong : entry.strength ≤ level_of g entry.node

-- the entry was found by a hop from an earlier one
pub record IsFoundFrom (g : GraphData) (state : List Tern) (best : List ℕ) (found : List Found) (k : ℕ) (entry : Found)
    (last : Last) : Type 0 where
  pub earlier : last.from < k
  pub from : Found
  pub at_from : slice_get found last.from ≡ Some from
  pub over : IsFoundOver g state best from last.place entry

-- how the entry at this place was found
abbrev pub IsFoundBy : (Tern → Bool) → GraphData → List Tern → List ℕ → List Found → ℕ → Found → Option Last → Type 0
IsFoundBy rail g state best found k entry None = IsFoundAtRoot rail g state best entry
IsFoundBy rail g state best found k entry (Some last) = IsFoundFrom g state best found k entry last

-- the node was found, at least as strong
pub record IsIn (found : List Found) (node strength : ℕ) : Type 0 where
  pub place : ℕ
  pub entry : Found
  pub here : slice_get found place ≡ Some entry
  pub named : entry.node ≡ node
  pub strong : strength ≤ entry.strength

-- a hop from the entry over this place was taken, or needs not be: it leads nowhere, to where something stronger
-- leads, or is weaker than asked
abbrev pub IsPassed : GraphData → List Tern → List ℕ → ℕ → List Found → Found → ℕ → Type 0
IsPassed g state best least found entry place =
    (there : Stand) → Hop g state (stand_at entry) place there → least ≤ there.strength →
    slice_index best there.node ≤ there.strength → IsIn found there.node there.strength

-- so it is with each hop from the entry
abbrev pub IsSettled : GraphData → List Tern → List ℕ → ℕ → List Found → Found → Type 0
IsSettled g state best least found entry = (place : ℕ) → IsPassed g state best least found entry place

-- a root that is as strong as asked is found
abbrev pub IsRootIn : (Tern → Bool) → GraphData → List Tern → List ℕ → ℕ → List Found → ℕ → Type 0
IsRootIn rail g state best least found node =
    IsRoot rail g state best node → least ≤ level_of g node → IsIn found node (level_of g node)

-- a mark counts if it isn't set
abbrev pub not_seen : Bool → ℕ
not_seen true = 0
not_seen false = 1

-- how many nodes aren't seen
abbrev pub unseen : List Bool → ℕ
unseen marks = sum_by not_seen marks

-- the search so far: each entry was found rightly, none is weaker than this strength, no node stands twice, the
-- marks tell which stand, and of what is stronger than this strength nothing is missing
pub record IsSearch (rail : Tern → Bool) (g : GraphData) (state : List Tern) (best : List ℕ) (strength : ℕ)
    (found : List Found) (seen : List Bool) : Type 0 where
  pub each : (k : ℕ) (entry : Found) → slice_get found k ≡ Some entry →
      IsFoundBy rail g state best found k entry entry.last
  pub strong : (k : ℕ) (entry : Found) → slice_get found k ≡ Some entry → strength ≤ entry.strength
  pub inside : (k : ℕ) (entry : Found) → slice_get found k ≡ Some entry → entry.node < nodes g
  pub marked : (k : ℕ) (entry : Found) → slice_get found k ≡ Some entry → slice_get seen entry.node ≡ Some true
  pub known : (node : ℕ) → slice_get seen node ≡ Some true → IsIn found node strength
  pub apart : (j k : ℕ) (x y : Found) → slice_get found j ≡ Some x → slice_get found k ≡ Some y → x.node ≡ y.node → j ≡ k
  pub count : length found + unseen seen ≡ nodes g
  pub marks : length seen ≡ nodes g
  pub settled : (k : ℕ) (entry : Found) → slice_get found k ≡ Some entry →
      IsSettled g state best (strength + 1) found entry
  pub roots : (node : ℕ) → IsRootIn rail g state best (strength + 1) found node

-- each entry stays at its place
abbrev pub Keeps : List Found → List Found → Type 0
Keeps old new = (k : ℕ) (entry : Found) → slice_get old k ≡ Some entry → slice_get new k ≡ Some entry

-- where a hop over this place from the entry leads with at least this strength and to where nothing stronger
-- leads; or there is no such hop
pub record LandsAt (g : GraphData) (state : List Tern) (best : List ℕ) (strength : ℕ) (entry : Found) (place node : ℕ) : Type 0 where
  pub there : Stand
  pub hop : Hop g state (stand_at entry) place there
  pub ends : there.node ≡ node
  pub strong : strength ≤ there.strength
  pub unbeaten : slice_index best node ≤ strength
  pub in_range : node < nodes g

abbrev pub Lands : GraphData → List Tern → List ℕ → ℕ → Found → ℕ → Option ℕ → Type 0
Lands g state best strength entry place None =
    (there : Stand) → Hop g state (stand_at entry) place there → strength ≤ there.strength →
    ¬ (slice_index best there.node ≤ strength)
Lands g state best strength entry place (Some node) = LandsAt g state best strength entry place node

-- how a new entry is found: at a root, or by a hop from an entry of the list
abbrev pub IsNew : (Tern → Bool) → GraphData → List Tern → List ℕ → List Found → Found → Type 0
IsNew rail g state best found entry = IsFoundBy rail g state best found (length found) entry entry.last

-- the places and hops that lead back from the entry at a place of the list to a root
pub data IsTrail (found : List Found) : ℕ → List ℕ → ℕ → Type 0 where
  starts : (k : ℕ) (entry : Found) → slice_get found k ≡ Some entry → entry.last ≡ None → IsTrail found k [] entry.node
  goes_on : (k : ℕ) (entry : Found) (last : Last) (hops : List ℕ) (root : ℕ) → slice_get found k ≡ Some entry →
      entry.last ≡ Some last → IsTrail found last.from hops root → IsTrail found k (hops ++ last.place ∷ []) root

-- each entry that was found by a hop was found from an earlier place
abbrev pub LeadBack : List Found → Type 0
LeadBack found =
    (k : ℕ) (entry : Found) (last : Last) → slice_get found k ≡ Some entry → entry.last ≡ Some last → last.from < k

-- the place of the entry for a node, or there is none
abbrev pub IsEntryOf : List Found → ℕ → Option ℕ → Type 0
IsEntryOf found node None = (k : ℕ) (entry : Found) → slice_get found k ≡ Some entry → ¬ (entry.node ≡ node)
IsEntryOf found node (Some k) = (entry : Found) × (slice_get found k ≡ Some entry) × (entry.node ≡ node)
