-- What a word stands for: a list of nodes, or why it has none.
use Rattle.std.specs.Prelude.{◌≡◌, ℕ, zero, suc, ◌<◌, Bool, false, ◌+◌, ◌-◌, ◌==◌, ◌&&◌, List, [], ◌∷◌, ◌++◌, length, nat_le, bytes_eq, Option, Some, None, Result, Ok, Err, if◌then◌else◌}
use Rattle.std.specs.List.{filter, flat_map, list_any, range_with_len, slice_index_or}
use Rattle.switch_paths.specs.Graphs.{nodes}
use Rattle.switch_paths.specs.declared.TheConstants.{RAILS}
use Rattle.netlist.specs.Circuits.{CircuitData}
use Rattle.netlist.specs.Names.{node_of}
use Rattle.node_words.specs.declared.TheConstants.{MOST_ENTRIES}
use Rattle.node_words.specs.declared.fault.VectorFault.{VectorFault}
use Rattle.node_words.specs.declared.fault.VectorFault.TheVariants.{UnknownNode, TooMany}
use Rattle.node_words.specs.Patterns.{is_star, matches}
use Rattle.node_words.specs.Ranges.{RangeData, first_range, words_in}

-- the list under a name, compared byte by byte
abbrev pub list_of : List (List ℕ × List ℕ) → List ℕ → Option (List ℕ)
list_of [] name = None
list_of (entry ∷ vectors) name = if bytes_eq name entry.0 then Some entry.1 else list_of vectors name

-- the node alone, if there is one, else the vector's nodes, if there is one
abbrev pub node_or_list : Option ℕ → Option (List ℕ) → Option (List ℕ)
node_or_list (Some node) list = Some (node ∷ [])
node_or_list None list = list

-- the nodes of a name in use, of a node or else of a vector
abbrev pub named : CircuitData → List (List ℕ × List ℕ) → List ℕ → Option (List ℕ)
named c vectors word = node_or_list (node_of c.names word) (list_of vectors word)

-- the pattern matches one of the node's names in use
abbrev pub has_match : List (List ℕ × ℕ) → List ℕ → ℕ → Bool
has_match names pattern node = list_any (λ entry. entry.1 == node && matches pattern entry.0) names

-- the nodes but the rails of which the pattern matches a name, each once, by ascending number
abbrev pub matched : CircuitData → List ℕ → List ℕ
matched c pattern = filter (has_match c.names pattern) (range_with_len RAILS (nodes c.graph - RAILS))

-- for each of so many nodes whether the pattern matches one of its names
pub record AreMarks (names : List (List ℕ × ℕ)) (pattern : List ℕ) (count : ℕ) (marks : List Bool) : Type 0 where
  pub long : length marks ≡ count
  pub each : (node : ℕ) → node < count → slice_index_or marks node false ≡ has_match names pattern node

-- what a word comes to where it has no range: nodes, or none; a word with a range that is too deep comes to nothing more
pub data Part : Type 0 where
  Nodes : List ℕ → Part
  Unknown : Part
  TooDeep : Part

-- these nodes, if there are any
abbrev pub some_nodes : List ℕ → Part
some_nodes [] = Unknown
some_nodes (node ∷ list) = Nodes (node ∷ list)

-- the nodes of a pattern, if the word has a `*`
abbrev pub by_pattern : CircuitData → List ℕ → Part
by_pattern c word = if list_any is_star word then some_nodes (matched c word) else Unknown

-- the nodes of a name, if there are any, or else what the pattern comes to
abbrev pub name_or_pattern : Option (List ℕ) → Part → Part
name_or_pattern (Some list) pattern = Nodes list
name_or_pattern None pattern = pattern

-- what a word comes to that has no range, or is a name
abbrev pub plain : CircuitData → List (List ℕ × List ℕ) → List ℕ → Part
plain c vectors word = name_or_pattern (named c vectors word) (by_pattern c word)

-- the range, unless the word is a name
abbrev pub unless_named : Option (List ℕ) → Option RangeData → Option RangeData
unless_named (Some list) range = None
unless_named None range = range

-- the range of a word that is no name
abbrev pub range_of : CircuitData → List (List ℕ × List ℕ) → List ℕ → Option RangeData
range_of c vectors word = unless_named (named c vectors word) (first_range word)

-- what comes of the words of the range, if there is one, else this alone
abbrev pub by_range : Part → (RangeData → List Part) → Option RangeData → List Part
by_range alone within None = alone ∷ []
by_range alone within (Some range) = within range

-- what a word comes to, in order: itself, or each word of its range, and of the ranges of these so many times one in another
unfoldable pub parts : CircuitData → List (List ℕ × List ℕ) → ℕ → List ℕ → List Part
parts c vectors zero word = by_range (plain c vectors word) (λ range. TooDeep ∷ []) (range_of c vectors word)
parts c vectors (suc left) word =
    by_range (plain c vectors word) (λ range. flat_map (parts c vectors left) (words_in range)) (range_of c vectors word)

-- the nodes of a part
abbrev pub nodes_of : Part → List ℕ
nodes_of (Nodes list) = list
nodes_of Unknown = []
nodes_of TooDeep = []

-- the nodes of all parts, in order
abbrev pub nodes_in : List Part → List ℕ
nodes_in all = flat_map nodes_of all

-- why a part is refused behind so many entries of a list: it stands for nothing, or makes too many entries, or is too deep
abbrev pub part_fault : ℕ → Part → Option VectorFault
part_fault count (Nodes list) = if nat_le (count + length list) MOST_ENTRIES then None else Some TooMany
part_fault count Unknown = Some UnknownNode
part_fault count TooDeep = Some TooMany

-- the first fault, or else the second
abbrev pub first_of_faults : Option VectorFault → Option VectorFault → Option VectorFault
first_of_faults (Some fault) later = Some fault
first_of_faults None later = later

-- the fault of the first part that has one, behind so many entries of a list
abbrev pub fault_in : ℕ → List Part → Option VectorFault
fault_in count [] = None
fault_in count (part ∷ all) = first_of_faults (part_fault count part) (fault_in (count + length (nodes_of part)) all)

-- the list, unless there is a fault
abbrev pub unless_fault : Option VectorFault → List ℕ → Result (List ℕ) VectorFault
unless_fault None list = Ok list
unless_fault (Some fault) list = Err fault

-- the list with the nodes of a part behind it, or the part's fault
abbrev pub with_part : List ℕ → Part → Result (List ℕ) VectorFault
with_part list part = unless_fault (part_fault (length list) part) (list ++ nodes_of part)

-- the list with the nodes of all parts behind it, or the fault of the first part that has one
abbrev pub with_parts : List ℕ → List Part → Result (List ℕ) VectorFault
with_parts list all = unless_fault (fault_in (length list) all) (list ++ nodes_in all)
