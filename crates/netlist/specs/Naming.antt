-- The names of a circuit as they are kept: beside the names the place of each node's first name, so that nothing searches them all.
use Rattle.std.specs.Prelude.{◌≡◌, ℕ, ◌+◌, ◌<◌, List, [], ◌∷◌, ◌++◌, length, map, take, All, Some, Vec, is_some, slice_get, slice_index, if◌then◌else◌}
use Rattle.std.specs.declared.alloc.Global.{Global}
use Rattle.strength_order.specs.declared.TheConstants.{INPUT_LEVEL}
use Rattle.switch_paths.specs.Graphs.{GraphData, nodes, level_of}
use Rattle.switch_paths.specs.declared.TheConstants.{GND, VDD, RAILS}
use Rattle.netlist.specs.declared.names.Terminals.{Terminals}
use Rattle.netlist.specs.Names.{StandOnce, first_name, node_of}

-- the names in use with their nodes, in the order in which they came into use, and the place of the first name of each node but the rails
pub record NamesData : Type 0 where
  pub entries : List (List ℕ × ℕ)
  pub firsts : List ℕ

-- the names and nodes of a table's entries
abbrev pub entries_of : List (Vec ℕ Global × ℕ) → List (List ℕ × ℕ)
entries_of table = map (λ entry. (entry.0.items, entry.1)) table

-- how many nodes there are, the rails included
abbrev pub node_count : NamesData → ℕ
node_count naming = length naming.firsts + RAILS

-- at this place stands the first name of the node
pub record IsFirst (entries : List (List ℕ × ℕ)) (node place : ℕ) : Type 0 where
  pub name : List ℕ
  pub stands : slice_get entries place ≡ Some (name, node)
  pub first : first_name entries node ≡ Some name

-- each name stands for its node, which there is, and stands once, and each node but the rails has a first name at its place
pub record IsNaming (naming : NamesData) : Type 0 where
  pub within : All (λ entry. entry.1 < node_count naming) naming.entries
  pub found : All (λ entry. node_of naming.entries entry.0 ≡ Some entry.1) naming.entries
  pub once : StandOnce naming.entries
  pub first : (k : ℕ) → k < length naming.firsts → IsFirst naming.entries (k + RAILS) (slice_index naming.firsts k)

-- the names are those of the graph's nodes, and both rails are input nodes
pub record IsNamedBy (g : GraphData) (naming : NamesData) : Type 0 where
  pub counted : nodes g ≡ node_count naming
  pub gnd : level_of g GND ≡ INPUT_LEVEL
  pub vdd : level_of g VDD ≡ INPUT_LEVEL

-- the names with this one as the first name of a new node
abbrev pub with_first : NamesData → List ℕ → NamesData
with_first naming name = record {
  entries = naming.entries ++ (name, node_count naming) ∷ [];
  firsts = naming.firsts ++ length naming.entries ∷ [];
}

-- the names with this one in use: as they are where it is already, else with it as the first name of a new node
abbrev pub with_name : NamesData → List ℕ → NamesData
with_name naming name = if is_some (node_of naming.entries name) then naming else with_first naming name

-- the names with these in use, made in order
abbrev pub with_names : NamesData → List (List ℕ) → NamesData
with_names naming [] = naming
with_names naming (name ∷ names) = with_names (with_name naming name) names

-- the names with this one as one more name of a node
abbrev pub with_more : NamesData → List ℕ → ℕ → NamesData
with_more naming name node = record naming { entries = naming.entries ++ (name, node) ∷ [] }

-- the names with this one in use: as they are where it is already, else with it as one more name of a node
abbrev pub with_name_of : NamesData → List ℕ → ℕ → NamesData
with_name_of naming name node = if is_some (node_of naming.entries name) then naming else with_more naming name node

-- the later names are the earlier ones, with their places, and perhaps more behind them
pub record Extends (earlier later : NamesData) : Type 0 where
  pub names : List (List ℕ × ℕ)
  pub nodes : List ℕ
  pub entries : later.entries ≡ earlier.entries ++ names
  pub firsts : later.firsts ≡ earlier.firsts ++ nodes

-- so many of the names that came into use first, and of the nodes that aren't rails
abbrev pub cut : NamesData → ℕ → ℕ → NamesData
cut naming names nodes = record { entries = take names naming.entries; firsts = take nodes naming.firsts }

-- the name is in use for this node
pub record HasNode (naming : NamesData) (name : List ℕ) (node : ℕ) : Type 0 where
  pub found : node_of naming.entries name ≡ Some node
  pub within : node < node_count naming

-- these are the nodes of the names at a transistor's terminals
pub record AreTerminals (naming : NamesData) (gate_name source_name drain_name : List ℕ) (nodes : Terminals) : Type 0 where
  pub gate : HasNode naming gate_name nodes.gate
  pub source : HasNode naming source_name nodes.source
  pub drain : HasNode naming drain_name nodes.drain
