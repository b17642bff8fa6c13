-- A circuit as contracts see it: a graph, the names in use, and a profile.
-- Node 0 is Gnd and node 1 is Vdd; transistor number k stands at place k - 1 of the graph.
use Rattle.std.specs.Prelude.{◌≡◌, ℕ, ◌<◌, ◌≤◌, true, List, [], ◌∷◌, Some, is_some, All, unwrap_or}
use Rattle.strength_order.specs.declared.TheConstants.{INPUT_LEVEL}
use Rattle.strength_order.specs.declared.Profile.{Profile}
use Rattle.switch_paths.specs.Graphs.{GraphData, IsWired, nodes, level_of}
use Rattle.switch_paths.specs.declared.TheConstants.{GND, VDD, RAILS}
use Rattle.netlist.specs.Names.{StandOnce, name_at, node_of}
use Rattle.line_words.specs.Visible.{IsVisibleName}

-- the graph, the names in use with their nodes in the order in which they came into use, and the profile. A spelling of a rail is
-- never among the names, since each of these stands for its own node; an alias of a rail is
pub record CircuitData : Type 0 where
  pub graph : GraphData
  pub names : List (List ℕ × ℕ)
  pub profile : Profile

-- the circuit of the two rails alone
abbrev pub rails_alone : Profile → CircuitData
rails_alone profile = record {
  graph = record { levels = INPUT_LEVEL ∷ INPUT_LEVEL ∷ []; places = [] };
  names = [];
  profile = profile;
}

-- the graph is well formed, both rails are there and are input nodes, each name stands for its node and stands once, and each node has
-- a name
pub record IsCircuit (c : CircuitData) : Type 0 where
  pub wired : IsWired c.graph
  pub railed : RAILS ≤ nodes c.graph
  pub gnd : level_of c.graph GND ≡ INPUT_LEVEL
  pub vdd : level_of c.graph VDD ≡ INPUT_LEVEL
  pub within : All (λ entry. entry.1 < nodes c.graph) c.names
  pub found : All (λ entry. node_of c.names entry.0 ≡ Some entry.1) c.names
  pub once : StandOnce c.names
  pub names : (node : ℕ) → node < nodes c.graph → is_some (name_at c.names node) ≡ true

-- what a node is called
abbrev pub called : CircuitData → ℕ → List ℕ
called c node = unwrap_or (name_at c.names node) []

-- each node is called by a name that a line can hold
abbrev pub HasVisibleNames : CircuitData → Type 0
HasVisibleNames c = (node : ℕ) → node < nodes c.graph → IsVisibleName (called c node)
