-- A graph with some of another graph's storage nodes alone: all its other nodes are input nodes, and each of its switches has one of them at an end.
use Rattle.std.specs.Prelude.{◌≡◌, ◌≢◌, ℕ, ◌<◌, ◌⊎◌, Bool, List, length, Some}
use Rattle.strength_order.specs.declared.TheConstants.{INPUT_LEVEL}
use Rattle.switch_paths.specs.declared.switching.Switch.{Switch}
use Rattle.switch_paths.specs.Graphs.{GraphData, nodes, level_of, place_at}
use Rattle.vicinity.specs.NodeSets.{IsIn}

-- one of the switch's ends is in the set
abbrev pub HasEndIn : List Bool → Switch → Type 0
HasEndIn inside switch = IsIn inside switch.a ⊎ IsIn inside switch.b

-- the nodes of this set have their levels, all others are input nodes; and just those switches are there that have one of the set at an end
pub record IsConfined (g : GraphData) (inside : List Bool) (h : GraphData) : Type 0 where
  pub count : nodes h ≡ nodes g
  pub levels : (node : ℕ) → IsIn inside node → level_of h node ≡ level_of g node
  pub edge : (node : ℕ) → node < nodes g → (¬ IsIn inside node) → level_of h node ≡ INPUT_LEVEL
  pub kept : (place : ℕ) (switch : Switch) → place_at g.places place ≡ Some switch → HasEndIn inside switch → place_at h.places place ≡ Some switch
  pub only : (place : ℕ) (switch : Switch) → place_at h.places place ≡ Some switch → (place_at g.places place ≡ Some switch) × HasEndIn inside switch

-- the node is an input node if it isn't in the set, and all else stays
pub record ConfinesNode (inside : List Bool) (node : ℕ) (old new : GraphData) : Type 0 where
  pub count : nodes new ≡ nodes old
  pub places : new.places ≡ old.places
  pub stays : (n : ℕ) → (n ≢ node) ⊎ IsIn inside n → level_of new n ≡ level_of old n
  pub edge : (¬ IsIn inside node) → level_of new node ≡ INPUT_LEVEL

-- all nodes that aren't in the set are input nodes, and all else stays
pub record ConfinesNodes (inside : List Bool) (old new : GraphData) : Type 0 where
  pub count : nodes new ≡ nodes old
  pub places : new.places ≡ old.places
  pub stays : (n : ℕ) → IsIn inside n → level_of new n ≡ level_of old n
  pub edge : (n : ℕ) → n < nodes old → (¬ IsIn inside n) → level_of new n ≡ INPUT_LEVEL

-- the place is empty, unless a switch is there with an end in the set; all else stays
pub record ConfinesPlace (inside : List Bool) (place : ℕ) (old new : GraphData) : Type 0 where
  pub levels : new.levels ≡ old.levels
  pub count : length new.places ≡ length old.places
  pub others : (p : ℕ) → p ≢ place → place_at new.places p ≡ place_at old.places p
  pub kept : (switch : Switch) → place_at old.places place ≡ Some switch → HasEndIn inside switch → place_at new.places place ≡ Some switch
  pub only : (switch : Switch) → place_at new.places place ≡ Some switch → (place_at old.places place ≡ Some switch) × HasEndIn inside switch

-- just the switches with an end in the set are there, and all else stays
pub record ConfinesPlaces (inside : List Bool) (old new : GraphData) : Type 0 where
  pub levels : new.levels ≡ old.levels
  pub kept : (place : ℕ) (switch : Switch) → place_at old.places place ≡ Some switch → HasEndIn inside switch → place_at new.places place ≡ Some switch
  pub only : (place : ℕ) (switch : Switch) → place_at new.places place ≡ Some switch → (place_at old.places place ≡ Some switch) × HasEndIn inside switch
