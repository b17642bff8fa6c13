-- The places of switches, listed at the nodes of a graph: those in front, and those behind.
use Rattle.std.specs.Prelude.{◌≡◌, ℕ, ◌<◌, Bool, List, [], length, slice_index_or}
use Rattle.machine_parts.specs.Marking.{IsMarked}

-- the places in front of a list, and all of it
pub record LiveListData : Type 0 where
  pub items : List ℕ
  pub all : List ℕ

-- a list for each node as an end of switches, and one for each node as their gate
pub record LiveListsData : Type 0 where
  pub ends : List LiveListData
  pub gates : List LiveListData

-- the list of a node; past the last list there is no place
abbrev pub list_at : List LiveListData → ℕ → LiveListData
list_at lists node = slice_index_or lists node (record { items = []; all = [] })

-- the places in front at a node
abbrev pub places_of : List LiveListData → ℕ → List ℕ
places_of lists node = (list_at lists node).items

-- all places at a node
abbrev pub all_at : List LiveListData → ℕ → List ℕ
all_at lists node = (list_at lists node).all

-- a node whose flag is there and isn't set is the gate of no switch
abbrev pub TellGates : List Bool → List LiveListData → Type 0
TellGates flags gates = (node : ℕ) → node < length flags → (¬ IsMarked flags node) → length (places_of gates node) ≡ 0
