-- The places that are listed at each node, by one end of their switches.
use Rattle.std.specs.Prelude.{◌≡◌, ◌≢◌, ℕ, ◌<◌, ◌⊎◌, length, List, [], map, Contains, nat_eq, ◌==◌, Bool, true, not, filter, Option, Some, None, slice_index_or}
use Rattle.std.specs.List.{IsDistinct}
use Rattle.smallvec.specs.SmallVec.{SmallVec, HasRoomFor}
use Rattle.switch_paths.specs.declared.switching.Switch.{Switch}
use Rattle.switch_paths.specs.Graphs.{GraphData, place_at}

-- the places that are listed at a node; past the last list there are none
abbrev pub places_of : List (SmallVec ℕ) → ℕ → List ℕ
places_of lists node = slice_index_or (map (λ places. places.items) lists) node []

-- the switch that stands at the place has this end at the node
pub record HasEndAt (end : Switch → ℕ) (g : GraphData) (place node : ℕ) : Type 0 where
  pub switch : Switch
  pub at_place : place_at g.places place ≡ Some switch
  pub at_node : end switch ≡ node

-- at each node those places are listed, once each, whose switch has this end there; of the changed place nothing is said
pub record AreListed (end : Switch → ℕ) (g : GraphData) (changed : Option ℕ) (lists : ℕ → List ℕ) : Type 0 where
  pub all : (place node : ℕ) → HasEndAt end g place node → Contains (lists node) place ⊎ (changed ≡ Some place)
  pub only : (place node : ℕ) → Contains (lists node) place → HasEndAt end g place node ⊎ (changed ≡ Some place)
  pub distinct : (node : ℕ) → IsDistinct nat_eq (lists node)

-- the place isn't the changed one
abbrev pub is_other : Option ℕ → ℕ → Bool
is_other None place = true
is_other (Some changed) place = not (changed == place)

-- the places that are listed at a node, but the changed one
abbrev pub others_at : Option ℕ → (ℕ → List ℕ) → ℕ → List ℕ
others_at changed lists node = filter (is_other changed) (lists node)

-- the places below this one are listed
pub record AreListedTo (end : Switch → ℕ) (g : GraphData) (count : ℕ) (lists : ℕ → List ℕ) : Type 0 where
  pub all : (place node : ℕ) → place < count → HasEndAt end g place node → Contains (lists node) place
  pub only : (place node : ℕ) → Contains (lists node) place → HasEndAt end g place node × (place < count)
  pub distinct : (node : ℕ) → IsDistinct nat_eq (lists node)

-- one node has this list, and all others keep theirs
pub record SetsAt (node : ℕ) (value : List ℕ) (old new : ℕ → List ℕ) : Type 0 where
  pub at : new node ≡ value
  pub others : (n : ℕ) → n ≢ node → new n ≡ old n

-- there is room for one place more at the node
pub record HasRoomAt (lists : List (SmallVec ℕ)) (node : ℕ) : Type 0 where
  pub inside : node < length lists
  pub room : (d : SmallVec ℕ) → HasRoomFor (slice_index_or lists node d) 1

-- the place is listed at the one node in place of the other
pub record Moves (place : ℕ) (from to : Option ℕ) (old new : ℕ → List ℕ) : Type 0 where
  pub kept : (n q : ℕ) → q ≢ place → Contains (old n) q → Contains (new n) q
  pub only : (n q : ℕ) → Contains (new n) q → (Contains (old n) q × ((from ≡ Some n) → q ≢ place)) ⊎ ((to ≡ Some n) × (q ≡ place))
  pub put : (n : ℕ) → to ≡ Some n → Contains (new n) place
  pub distinct : ((n : ℕ) → IsDistinct nat_eq (old n)) → ((n : ℕ) → Contains (old n) place → from ≡ Some n) → (n : ℕ) → IsDistinct nat_eq (new n)
