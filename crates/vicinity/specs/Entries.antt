-- Tables of strengths over a set of nodes, in three passes: what definite paths bring to each node, and what unblocked paths bring from roots
-- that may be 1, and that may be 0.
-- After the relaxation in Bryant, "A Switch-Level Model and Simulator for MOS Digital Systems", 1984.
use Rattle.std.specs.Prelude.{◌≡◌, ℕ, ◌<◌, ◌≤◌, min, Bool, true, if◌then◌else◌, List, Some, slice_index}
use Rattle.ternary.specs.declared.tern.Tern.{Tern}
use Rattle.ternary.specs.Tern.{may_one, may_zero}
use Rattle.strength_order.specs.declared.TheConstants.{INPUT_LEVEL}
use Rattle.switch_paths.specs.declared.switching.Switch.{Switch}
use Rattle.switch_paths.specs.declared.switching.SwitchState.{SwitchState}
use Rattle.switch_paths.specs.Switching.{is_closed, is_live, state_at, switch_state_at}
use Rattle.switch_paths.specs.Graphs.{GraphData, level_of, place_at}
use Rattle.switch_paths.specs.Path.{Joins, HasDefinite, IsBeaten, Reaches}
use Rattle.vicinity.specs.NodeSets.{IsIn}
use Rattle.vicinity.specs.declared.pass.Pass.{Pass}
use Rattle.vicinity.specs.declared.pass.Pass.TheVariants.{Sure, One, Zero}

-- a sure path crosses closed switches alone, any other path each switch that isn't open
abbrev pub crosses : Pass → SwitchState → Bool
crosses Sure switch = is_closed switch
crosses One switch = is_live switch
crosses Zero switch = is_live switch

-- the strength with which a node of this state starts a path of its own
abbrev pub own_strength : Pass → Tern → ℕ → ℕ
own_strength Sure state level = level
own_strength One state level = if may_one state then level else 0
own_strength Zero state level = if may_zero state then level else 0

-- a definite path of this strength leads to the node
abbrev pub SureWay : GraphData → List Tern → ℕ → ℕ → Type 0
SureWay g state node strength = HasDefinite g state node (λ own. own ≡ strength)

-- an unblocked path of this strength leads to the node from a root whose state has the rail
pub record RailWay (rail : Tern → Bool) (g : GraphData) (state : List Tern) (node strength : ℕ) : Type 0 where
  pub root : ℕ
  pub reaches : Reaches g state root node
  pub strong : reaches.there.strength ≡ strength
  pub set : rail (state_at state root) ≡ true

-- the pass finds this strength at the node
abbrev pub IsWay : Pass → GraphData → List Tern → ℕ → ℕ → Type 0
IsWay Sure g state node strength = SureWay g state node strength
IsWay One g state node strength = RailWay may_one g state node strength
IsWay Zero g state node strength = RailWay may_zero g state node strength

-- for each node of the set, the table tells which strengths are beaten there: those below its entry
pub record AreBest (g : GraphData) (state : List Tern) (inside : List Bool) (best : List ℕ) : Type 0 where
  pub unbeaten : (node strength : ℕ) → IsIn inside node → slice_index best node ≤ strength → ¬ IsBeaten g state node strength
  pub most : (node strength : ℕ) → IsIn inside node → (¬ IsBeaten g state node strength) → slice_index best node ≤ strength

-- below the floor of a node nothing comes to it: sure paths have none, others that of the strongest sure path
abbrev pub IsFloor : Pass → GraphData → List Tern → List Bool → List ℕ → Type 0
IsFloor Sure g state inside floor = (node : ℕ) → IsIn inside node → slice_index floor node ≡ 0
IsFloor One g state inside floor = AreBest g state inside floor
IsFloor Zero g state inside floor = AreBest g state inside floor

-- a strength that isn't below the node's floor is no greater than its entry
abbrev pub HasAbove : ℕ → ℕ → ℕ → Type 0
HasAbove floor entry strength = floor ≤ strength → strength ≤ entry

-- what isn't below this floor isn't beaten at the node; sure paths need no floor
abbrev pub IsFloorAt : Pass → GraphData → List Tern → ℕ → ℕ → Type 0
IsFloorAt Sure g state node floor = Unit {0}
IsFloorAt One g state node floor = (strength : ℕ) → floor ≤ strength → ¬ IsBeaten g state node strength
IsFloorAt Zero g state node floor = (strength : ℕ) → floor ≤ strength → ¬ IsBeaten g state node strength

-- each entry of the set is what some path brings
abbrev pub AreWays : Pass → GraphData → List Tern → List Bool → List ℕ → Type 0
AreWays pass g state inside table = (node : ℕ) → IsIn inside node → 0 < slice_index table node → IsWay pass g state node (slice_index table node)

-- the entry has what the node starts with itself, and what comes to it from input nodes
pub record HasSources (pass : Pass) (g : GraphData) (state : List Tern) (node floor entry : ℕ) : Type 0 where
  pub own : HasAbove floor entry (own_strength pass (state_at state node) (level_of g node))
  pub edge : (place other : ℕ) (switch : Switch) → place_at g.places place ≡ Some switch → Joins switch other node →
      level_of g other ≡ INPUT_LEVEL → crosses pass (switch_state_at state switch) ≡ true →
      HasAbove floor entry (min (own_strength pass (state_at state other) INPUT_LEVEL) switch.level)

-- of a strength at the one node nothing more comes to the other nodes of the set
abbrev pub IsSpreadOf : Pass → GraphData → List Tern → List Bool → List ℕ → List ℕ → ℕ → ℕ → Type 0
IsSpreadOf pass g state inside floor table from strength =
    (place to : ℕ) (switch : Switch) → place_at g.places place ≡ Some switch → Joins switch from to → IsIn inside to →
    crosses pass (switch_state_at state switch) ≡ true → HasAbove (slice_index floor to) (slice_index table to) (min strength switch.level)

-- of its entry nothing more comes from the node
abbrev pub IsSpreadFrom : Pass → GraphData → List Tern → List Bool → List ℕ → List ℕ → ℕ → Type 0
IsSpreadFrom pass g state inside floor table from = IsSpreadOf pass g state inside floor table from (slice_index table from)

-- the pass is done: the entries are what paths bring, with all that starts in the set or comes to its edge, and nothing more spreads
pub record AreEntries (pass : Pass) (g : GraphData) (state : List Tern) (inside : List Bool) (floor table : List ℕ) : Type 0 where
  pub ways : AreWays pass g state inside table
  pub sources : (node : ℕ) → IsIn inside node → HasSources pass g state node (slice_index floor node) (slice_index table node)
  pub spread : (node : ℕ) → IsIn inside node → IsSpreadFrom pass g state inside floor table node
