-- What the formulas of a graph's members are: the rails of their steady states, with few gates.
-- After Bryant, "Boolean Analysis of MOS Circuits", 1987.
use Rattle.std.specs.Prelude.{◌≡◌, ℕ, ◌↔◌, Bool, true, List, length, Option, Some, slice_get}
use Rattle.ternary.specs.declared.tern.Tern.{Tern}
use Rattle.ternary.specs.Tern.{may_one, may_zero}
use Rattle.switch_paths.specs.Graphs.{GraphData, nodes}
use Rattle.switch_paths.specs.Step.{Responds}
use Rattle.bool_pool.specs.declared.gate.Gate.{Gate}
use Rattle.bool_pool.specs.declared.gate.Rails.{Rails}
use Rattle.bool_pool.specs.Value.{value_at}
use Rattle.dual_rail.specs.Variables.{AreVariables}
use Rattle.group_text.specs.Texts.{IsText}
use Rattle.group_analysis.specs.Meaning.{HasConstants}

-- the graph is that of a well-formed text with so many members
pub record HasMembers (g : GraphData) (members : ℕ) : Type 0 where
  pub constants : List (Option Tern)
  pub text : IsText (record { graph = g; members = members; constants = constants })

-- the two formulas have the rails of the node's steady state
pub record AreRailsOfResponse (g : GraphData) (state : List Tern) (gates : List Gate) (vars : ℕ → Bool) (node : ℕ)
    (rails : Rails) : Type 0 where
  pub one : (value_at gates vars rails.hi.place ≡ true) ↔ Responds may_one g state node
  pub zero : (value_at gates vars rails.lo.place ≡ true) ↔ Responds may_zero g state node

-- a state of the nodes in which each node with a constant has it, and the variables of the state
pub record IsAssignment (g : GraphData) (constants : List (Option Tern)) (state : List Tern) (vars : ℕ → Bool) : Type 0 where
  pub count : length state ≡ nodes g
  pub given : HasConstants constants state
  pub variables : AreVariables state vars

-- for every such state, under its variables, the formulas of each member have the rails of its steady state
abbrev pub AreResponses : GraphData → List (Option Tern) → List Gate → List Rails → Type 0
AreResponses g constants gates answers =
    (state : List Tern) (vars : ℕ → Bool) → IsAssignment g constants state vars →
    (k : ℕ) (rails : Rails) → slice_get answers k ≡ Some rails → AreRailsOfResponse g state gates vars k rails
