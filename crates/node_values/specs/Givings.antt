-- What an assignment gives: a letter for each node of its name.
use Rattle.std.specs.Prelude.{ℕ, Bool, false, not, List, [], ◌∷◌, length, replicate, zip, filter_map, Option, Some, None, option_map, is_some, Result, Ok, Err}
use Rattle.ternary.specs.declared.tern.Tern.{Tern}
use Rattle.netlist.specs.Circuits.{CircuitData}
use Rattle.netlist.specs.Names.{node_of}
use Rattle.vector_values.specs.Values.{Letter, ValueData, letters_for}
use Rattle.script_lang.specs.declared.value.Value.{Value}
use Rattle.script_lang.specs.declared.value.Value.TheVariants as given
use Rattle.node_words.specs.Words.{list_of, named}
use Rattle.node_values.specs.declared.fault.GivenFault.{GivenFault}
use Rattle.node_values.specs.declared.fault.GivenFault.TheVariants.{UnknownNode, VectorValue}

-- the list, if there is no node
abbrev pub unless_node : Option ℕ → Option (List ℕ) → Option (List ℕ)
unless_node (Some node) list = None
unless_node None list = list

-- the nodes of a vector's name, which is that of no node in use
abbrev pub vector_named : CircuitData → List (List ℕ × List ℕ) → List ℕ → Option (List ℕ)
vector_named c vectors name = unless_node (node_of c.names name) (list_of vectors name)

-- the name is that of a vector, and of no node in use
abbrev pub is_vector : CircuitData → List (List ℕ × List ℕ) → List ℕ → Bool
is_vector c vectors name = is_some (vector_named c vectors name)

-- the value may stand at a vector alone, and the name is that of none
abbrev pub is_misplaced : CircuitData → List (List ℕ × List ℕ) → List ℕ × Value → Bool
is_misplaced c vectors (name, given.Letter state) = false
is_misplaced c vectors (name, given.Wide value) = not (is_vector c vectors name)
is_misplaced c vectors (name, given.Alone state) = false

-- each of these nodes with the state, or why there are none
abbrev pub with_state : Tern → Option (List ℕ) → Result (List (ℕ × Letter)) GivenFault
with_state state None = Err UnknownNode
with_state state (Some nodes) = Ok (zip nodes (replicate (length nodes) (Some state)))

-- each of these nodes with its letter, or why the value doesn't fit them
abbrev pub with_letters : List ℕ → Option (List Letter) → Result (List (ℕ × Letter)) GivenFault
with_letters nodes None = Err VectorValue
with_letters nodes (Some letters) = Ok (zip nodes letters)

abbrev pub with_value : List ℕ → ValueData → Result (List (ℕ × Letter)) GivenFault
with_value nodes value = with_letters nodes (letters_for (length nodes) value)

-- the same, if there are nodes
abbrev pub with_value_at : ValueData → Option (List ℕ) → Result (List (ℕ × Letter)) GivenFault
with_value_at value None = Err UnknownNode
with_value_at value (Some nodes) = with_value nodes value

-- what an assignment gives: a state to the node of a name, or else to each node of its vector; letters or a number to a vector's nodes alone, a
-- letter to each; and a state of a column to a node alone
abbrev pub letters_given : CircuitData → List (List ℕ × List ℕ) → List ℕ × Value → Result (List (ℕ × Letter)) GivenFault
letters_given c vectors (name, given.Letter state) = with_state state (named c vectors name)
letters_given c vectors (name, given.Wide value) = with_value_at value (vector_named c vectors name)
letters_given c vectors (name, given.Alone state) = with_state state (option_map (λ node. node ∷ []) (node_of c.names name))

-- the node with its state, unless its letter stands for any
abbrev pub state_given : ℕ × Letter → Option (ℕ × Tern)
state_given (node, None) = None
state_given (node, Some state) = Some (node, state)

-- the nodes that are given states, with these
abbrev pub states_given : List (ℕ × Letter) → List (ℕ × Tern)
states_given pairs = filter_map state_given pairs
