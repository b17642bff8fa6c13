-- The formulas that the levels start from: the rails of each node, and what each switch does.
use Rattle.std.specs.Prelude.{◌≡◌, ℕ, ◌<◌, Bool, true, false, List, ◌++◌, length, take, replicate, Option, Some, is_some, count_by, if◌then◌else◌}
use Rattle.ternary.specs.declared.tern.Tern.{Tern}
use Rattle.ternary.specs.Tern.{may_one, may_zero}
use Rattle.switch_paths.specs.declared.switching.Switch.{Switch}
use Rattle.switch_paths.specs.Switching.{is_closed, is_live, state_at, state_by, switch_state_at}
use Rattle.switch_paths.specs.Spread.{passes}
use Rattle.switch_paths.specs.Graphs.{GraphData, nodes, place_at}
use Rattle.bool_pool.specs.declared.gate.Gate.{Gate}
use Rattle.bool_pool.specs.declared.gate.Id.{Id}
use Rattle.bool_pool.specs.Value.{value_at}
use Rattle.bool_pool.specs.Reach.{IsWithin, IsGrown}
use Rattle.node_elimination.specs.declared.inputs.Inputs.{Inputs}
use Rattle.node_elimination.specs.Growth.{place_of, AreFormulas, AreWithin, Grows}
use Rattle.node_elimination.specs.LevelSystem.{value_of, IsConstant}
use Rattle.group_analysis.specs.Meaning.{constant_at}

-- the formula is this rail of a node's state, if the state is the node's constant if it has one, and the variable has the
-- rail
pub record IsRail (rail : Tern → Bool) (constant : Option Tern) (variable : ℕ) (gates : List Gate) (p : ℕ) : Type 0 where
  pub inside : p < length gates
  pub value_is : (vars : ℕ → Bool) (state : Tern) → ((t : Tern) → constant ≡ Some t → state ≡ t) →
      vars variable ≡ rail state →
      value_at gates vars p ≡ rail state
  pub within : (listed : List ℕ) (bound : ℕ) → variable < bound → IsWithin gates listed bound p

-- the formulas are this rail of the first nodes, so many of them
pub record AreRails (rail : Tern → Bool) (variable : ℕ → ℕ) (constants : List (Option Tern)) (count : ℕ) (gates : List Gate)
    (ids : List Id) : Type 0 where
  pub each_one : length ids ≡ count
  pub rails : (node : ℕ) → node < count → IsRail rail (constant_at constants node) (variable node) gates (place_of ids node)

-- whatever state the gate of the place's switch has, by the formulas of its rails, the formula is whether the switch is
-- closed or, if it need not be sure, isn't open
pub record IsPass (g : GraphData) (sure : Bool) (before : List Gate) (hi lo : List Id) (place : ℕ) (after : List Gate)
    (p : ℕ) : Type 0 where
  pub inside : p < length after
  pub value_is : (switch : Switch) → place_at g.places place ≡ Some switch → (vars : ℕ → Bool) (state : Tern) →
      value_of before hi vars switch.gate ≡ may_one state → value_of before lo vars switch.gate ≡ may_zero state →
      value_at after vars p ≡ passes sure (state_by switch.kind state)
  pub grown : (listed : List ℕ) (bound : ℕ) → AreWithin before listed bound (hi ++ lo) →
      IsGrown after listed bound (if is_some (place_at g.places place) then 1 else 0) p

-- the formulas are that of the first places, so many of them
pub record ArePasses (g : GraphData) (sure : Bool) (before : List Gate) (hi lo : List Id) (count : ℕ) (after : List Gate)
    (ids : List Id) : Type 0 where
  pub each_one : length ids ≡ count
  pub formulas : AreFormulas after ids
  pub value_is : (place : ℕ) (switch : Switch) → place < count → place_at g.places place ≡ Some switch →
      (vars : ℕ → Bool) (state : Tern) →
      value_of before hi vars switch.gate ≡ may_one state → value_of before lo vars switch.gate ≡ may_zero state →
      value_of after ids vars place ≡ passes sure (state_by switch.kind state)
  pub grows : Grows before (hi ++ lo) after ids (count_by is_some (take count g.places))

-- all input formulas but the two constants, as one list
abbrev pub input_formulas : Inputs → List Id
input_formulas inputs =
    inputs.hi.items ++ (inputs.lo.items ++ (inputs.closed.items ++ (inputs.live.items ++ inputs.sure.items)))

-- there are rails for each node and passes for each place, and all are formulas of the pool
pub record HaveInputs (g : GraphData) (gates : List Gate) (inputs : Inputs) : Type 0 where
  pub falsehood : IsConstant false gates inputs.falsehood
  pub truth : IsConstant true gates inputs.truth
  pub each_hi : length inputs.hi.items ≡ nodes g
  pub each_lo : length inputs.lo.items ≡ nodes g
  pub each_closed : length inputs.closed.items ≡ length g.places
  pub each_live : length inputs.live.items ≡ length g.places
  pub each_sure : inputs.sure.items ≡ replicate (nodes g) inputs.truth
  pub formulas : AreFormulas gates (input_formulas inputs)

-- under these variables the formulas tell the rails of each node and what each switch does in the state
pub record ShowsState (g : GraphData) (gates : List Gate) (inputs : Inputs) (state : List Tern)
    (vars : ℕ → Bool) : Type 0 where
  pub hi : (node : ℕ) → node < nodes g → value_of gates inputs.hi.items vars node ≡ may_one (state_at state node)
  pub lo : (node : ℕ) → node < nodes g → value_of gates inputs.lo.items vars node ≡ may_zero (state_at state node)
  pub closed : (place : ℕ) (switch : Switch) → place_at g.places place ≡ Some switch →
      value_of gates inputs.closed.items vars place ≡ is_closed (switch_state_at state switch)
  pub live : (place : ℕ) (switch : Switch) → place_at g.places place ≡ Some switch →
      value_of gates inputs.live.items vars place ≡ is_live (switch_state_at state switch)
