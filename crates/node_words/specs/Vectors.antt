-- Vectors: names of lists of nodes.
use Rattle.std.specs.Prelude.{◌≡◌, ℕ, ◌<◌, ◌≤◌, ◌+◌, List, [], ◌∷◌, map, length, All, nat_le, bytes_eq, Vec, Option, Some, None, is_some, if◌then◌else◌}
use Rattle.std.specs.List.{flat_map}
use Rattle.std.specs.Option.{option_map_or}
use Rattle.std.specs.declared.alloc.Global.{Global}
use Rattle.netlist.specs.Circuits.{CircuitData}
use Rattle.netlist.specs.Names.{node_of}
use Rattle.node_words.specs.declared.TheConstants.{MOST_DEPTH, MOST_IN_ALL}
use Rattle.node_words.specs.declared.fault.VectorFault.{VectorFault}
use Rattle.node_words.specs.declared.fault.VectorFault.TheVariants.{NameTaken, TooMany}
use Rattle.node_words.specs.declared.vectors.Named.{Named}
use Rattle.node_words.specs.declared.vectors.Named.TheVariants.{Node, Vector, Nothing}
use Rattle.node_words.specs.Words.{Part, fault_in, first_of_faults, list_of, nodes_in, parts}

-- the names and lists of a table's entries
abbrev pub lists_of : List (Vec ℕ Global × Vec ℕ Global) → List (List ℕ × List ℕ)
lists_of table = map (λ entry. (entry.0.items, entry.1.items)) table

-- how many entries the lists of all vectors have together
abbrev pub entries_in : List (List ℕ × List ℕ) → ℕ
entries_in [] = 0
entries_in (entry ∷ vectors) = length entry.1 + entries_in vectors

-- what a name stands for: a node in use, or else a vector, or else nothing
abbrev pub IsNamed : CircuitData → List (List ℕ × List ℕ) → List ℕ → Named → Type 0
IsNamed c vectors name (Node node) = node_of c.names name ≡ Some node
IsNamed c vectors name (Vector nodes) = (node_of c.names name ≡ None) × (list_of vectors name ≡ Some nodes.now)
IsNamed c vectors name Nothing = (node_of c.names name ≡ None) × (list_of vectors name ≡ None)

-- the vectors' nodes are among so many
abbrev pub AreWithin : ℕ → List (List ℕ × List ℕ) → Type 0
AreWithin count vectors = All (λ entry. All (λ node. node < count) entry.1) vectors

-- how many entries a name's vector has, 0 if there is none
abbrev pub length_at : List (List ℕ × List ℕ) → List ℕ → ℕ
length_at vectors name = option_map_or length (list_of vectors name) 0

-- the count is that of all entries, and isn't past the most
pub record IsCounted (count : ℕ) (vectors : List (List ℕ × List ℕ)) : Type 0 where
  pub same : count ≡ entries_in vectors
  pub few : count ≤ MOST_IN_ALL

-- what words come to, in order
abbrev pub all_parts : CircuitData → List (List ℕ × List ℕ) → List (List ℕ) → List Part
all_parts c vectors words = flat_map (parts c vectors MOST_DEPTH) words

-- the nodes that words stand for, in order
abbrev pub nodes_for : CircuitData → List (List ℕ × List ℕ) → List (List ℕ) → List ℕ
nodes_for c vectors words = nodes_in (all_parts c vectors words)

-- the vectors with this list under the name, in place of the one that the name had, or else behind the others
abbrev pub with_list : List (List ℕ × List ℕ) → List ℕ → List ℕ → List (List ℕ × List ℕ)
with_list [] name list = (name, list) ∷ []
with_list (entry ∷ vectors) name list =
    if bytes_eq name entry.0 then (entry.0, list) ∷ vectors else entry ∷ with_list vectors name list

-- the vectors after the name was given to the nodes of these words, which may name the vector that it was
abbrev pub with_vector : CircuitData → List (List ℕ × List ℕ) → List ℕ → List (List ℕ) → List (List ℕ × List ℕ)
with_vector c vectors name words = with_list vectors name (nodes_for c vectors words)

-- the fault of all vectors together
abbrev pub total_fault : List (List ℕ × List ℕ) → Option VectorFault
total_fault vectors = if nat_le (entries_in vectors) MOST_IN_ALL then None else Some TooMany

-- why a name can't be given to the nodes of these words: it is in use for a node, else the first word that has a fault, from left to
-- right, else all vectors would have too many entries
abbrev pub vector_fault : CircuitData → List (List ℕ × List ℕ) → List ℕ → List (List ℕ) → Option VectorFault
vector_fault c vectors name words =
    if is_some (node_of c.names name) then Some NameTaken
    else first_of_faults (fault_in 0 (all_parts c vectors words)) (total_fault (with_vector c vectors name words))
