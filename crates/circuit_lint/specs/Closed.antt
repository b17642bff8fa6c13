-- The always closed switches at each node, as they are listed.
use Rattle.std.specs.Prelude.{◌≡◌, ℕ, ◌<◌, Bool, false, ◌&&◌, ◌||◌, ◌==◌, List, [], ◌∷◌, ◌++◌, length, map, filter, slice_index_or, Option, Some, None, Vec}
use Rattle.std.specs.List.{range_with_len}
use Rattle.std.specs.declared.alloc.Global.{Global}
use Rattle.switch_paths.specs.declared.switching.Switch.{Switch}
use Rattle.switch_paths.specs.Graphs.{GraphData, nodes, place_at}
use Rattle.circuit_lint.specs.Conducting.{is_always_closed}

-- lists of places, one for each node
abbrev pub Lists : Type 0
Lists = List (Vec ℕ Global)

-- the places that are listed at a node; past the last list there are none
abbrev pub list_at : Lists → ℕ → List ℕ
list_at lists node = slice_index_or (map (λ places. places.items) lists) node []

-- an always closed switch, with an end at the node
abbrev pub is_closed_end : ℕ → Option Switch → Bool
is_closed_end node None = false
is_closed_end node (Some switch) = is_always_closed switch && ((switch.a == node) || (switch.b == node))

-- such a switch stands at the place
abbrev pub is_closed_at : GraphData → ℕ → ℕ → Bool
is_closed_at g node place = is_closed_end node (place_at g.places place)

-- at each node the always closed switches among the first places are listed, so many of them
pub record AreClosedTo (g : GraphData) (count : ℕ) (lists : Lists) : Type 0 where
  pub size : length lists ≡ nodes g
  pub each : (node : ℕ) → node < nodes g → list_at lists node ≡ filter (is_closed_at g node) (range_with_len 0 count)

-- and among all places
abbrev pub AreClosed : GraphData → Lists → Type 0
AreClosed g lists = AreClosedTo g (length g.places) lists

-- the place was listed at the node, behind those that were
pub record HasPut (node place : ℕ) (old new : Lists) : Type 0 where
  pub count : length new ≡ length old
  pub here : list_at new node ≡ list_at old node ++ place ∷ []
  pub others : (other : ℕ) → ¬ (other ≡ node) → list_at new other ≡ list_at old other
