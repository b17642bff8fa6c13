-- What it is for code to mean the text of a group.
-- After Bryant, Beatty, Brace, Cho and Sheffler, "COSMOS: A Compiled Simulator for MOS Circuits", 1987.
use Rattle.std.specs.Prelude.{◌≡◌, ℕ, ◌+◌, ◌-◌, ◌*◌, ◌^◌, ◌<◌, ◌≤◌, List, length, Option, Some, None, is_some, count_by, slice_index_or}
use Rattle.ternary.specs.declared.tern.Tern.{Tern}
use Rattle.switch_paths.specs.Switching.{state_at}
use Rattle.switch_paths.specs.Graphs.{GraphData, nodes}
use Rattle.switch_paths.specs.Step.{IsResponse}
use Rattle.group_text.specs.Texts.{GroupTextData}
use Rattle.straight_code.specs.Code.{CodeData, code_value}

-- the constant of a node, if it has one
abbrev pub constant_at : List (Option Tern) → ℕ → Option Tern
constant_at constants node = slice_index_or constants node None

-- under the state each node that has a constant has that state
abbrev pub HasConstants : List (Option Tern) → List Tern → Type 0
HasConstants constants state =
    (node : ℕ) (constant : Tern) → constant_at constants node ≡ Some constant → state_at state node ≡ constant

-- the bound on steps and gates, for n members, e other nodes and t switches
abbrev pub gate_bound : ℕ → ℕ → ℕ → ℕ
gate_bound n e t = 16 * (8 * n ^ 3 + 40 * n ^ 2 + 40 * t + 40 * n) + 4 * (n + e)

-- how many switches the graph has
abbrev pub switch_count : GraphData → ℕ
switch_count g = count_by is_some g.places

-- the bound of a graph with so many members
abbrev pub bound_of : GraphData → ℕ → ℕ
bound_of g members = gate_bound members (nodes g - members) (switch_count g)

-- the code has an input for each local node and an output for each member; in every state of the local nodes in which the rails have
-- their constants it gives each member's steady state in the local graph; and it has no more instructions than the bound of the text
pub record MeansText (text : GroupTextData) (code : CodeData) : Type 0 where
  pub inputs : code.inputs ≡ nodes text.graph
  pub outputs : length code.outputs ≡ text.members
  pub responses : (state : List Tern) → length state ≡ nodes text.graph → HasConstants text.constants state →
      (k : ℕ) → k < text.members → IsResponse text.graph state k (state_at (code_value code state) k)
  pub few : length code.instructions ≤ bound_of text.graph text.members
