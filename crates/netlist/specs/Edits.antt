-- What each edit makes of a circuit, and when it is refused.
-- After Bryant, "A Switch-Level Model and Simulator for MOS Digital Systems", 1984; the limits and refusals are this project's own.
use Rattle.std.specs.Prelude.{ℕ, ◌==◌, ◌&&◌, Bool, List, [], ◌∷◌, ◌++◌, length, nat_le, nat_lt, is_some, unwrap_or, option_map, slice_set, ◌-◌, Option, Some, None, Result, Ok, Err, if◌then◌else◌}
use Rattle.strength_order.specs.declared.TheConstants.{INPUT_LEVEL, LEAST_SIZE_LEVEL}
use Rattle.strength_order.specs.declared.Profile.{Profile}
use Rattle.strength_order.specs.Levels.{greatest_size, greatest_strength, level_of_size, level_of_strength}
use Rattle.switch_paths.specs.declared.switching.Switch.{Switch}
use Rattle.switch_paths.specs.declared.switching.SwitchKind.{SwitchKind}
use Rattle.switch_paths.specs.declared.switching.SwitchKind.TheVariants.{NChan, PChan, Always}
use Rattle.switch_paths.specs.Graphs.{nodes, place_at}
use Rattle.netlist.specs.declared.TheConstants.{MOST_NODES, MOST_SWITCHES}
use Rattle.switch_paths.specs.declared.TheConstants.{RAILS}
use Rattle.netlist.specs.declared.fault.EditFault.{EditFault}
use Rattle.netlist.specs.declared.fault.EditFault.TheVariants as fault
use Rattle.netlist.specs.Faults.{MakingFault}
use Rattle.netlist.specs.Faults.MakingFault.{BadStrength, AliasTaken, TooManyNodes, TooManySwitches}
use Rattle.netlist.specs.Names.{node_of}
use Rattle.netlist.specs.Circuits.{CircuitData}

-- the strength of a transistor that nothing sets: 1 for depletion, 2 for the others
abbrev pub usual_strength : SwitchKind → ℕ
usual_strength NChan = 2
usual_strength PChan = 2
usual_strength Always = 1

-- the profile accepts the strength
abbrev pub is_strength : Profile → ℕ → Bool
is_strength profile strength = nat_le 1 strength && nat_le strength (greatest_strength profile)

-- the profile accepts the size
abbrev pub is_size : Profile → ℕ → Bool
is_size profile size = nat_le 1 size && nat_le size (greatest_size profile)

-- the circuit with a new storage node of size 1, which gets this name
abbrev pub with_new_node : CircuitData → List ℕ → CircuitData
with_new_node c name = record c {
  graph = record c.graph { levels = c.graph.levels ++ LEAST_SIZE_LEVEL ∷ [] };
  names = c.names ++ (name, nodes c.graph) ∷ [];
}

-- the circuit with this name in use: as it is where it is already, else with a new node
abbrev pub with_node : CircuitData → List ℕ → CircuitData
with_node c name = if is_some (node_of c.names name) then c else with_new_node c name

-- the circuit with these names in use, made in order
abbrev pub with_nodes : CircuitData → List (List ℕ) → CircuitData
with_nodes c [] = c
with_nodes c (name ∷ names) = with_nodes (with_node c name) names

-- the node of a name that is in use
abbrev pub node_named : CircuitData → List ℕ → ℕ
node_named c name = unwrap_or (node_of c.names name) 0

-- the circuit with one more switch, at a place of its own
abbrev pub with_switch : CircuitData → Switch → CircuitData
with_switch c switch = record c { graph = record c.graph { places = c.graph.places ++ Some switch ∷ [] } }

-- the switch of a transistor between the nodes that the names have
abbrev pub switch_between : CircuitData → SwitchKind → ℕ → List ℕ → List ℕ → List ℕ → Switch
switch_between c kind strength gate source drain = record {
  kind = kind;
  level = level_of_strength strength;
  gate = node_named c gate;
  a = node_named c source;
  b = node_named c drain;
}

-- the circuit with one more transistor: first the names that are new, in the order gate, source, drain, then the switch
abbrev pub with_transistor : CircuitData → SwitchKind → ℕ → List ℕ → List ℕ → List ℕ → CircuitData
with_transistor c kind strength gate source drain =
    let named = with_nodes c (gate ∷ source ∷ drain ∷ []) in
    with_switch named (switch_between named kind strength gate source drain)

-- the fault of a circuit that would have so many nodes, and has so many transistors before one more
abbrev pub limit_fault : ℕ → ℕ → Option MakingFault
limit_fault count made =
    if nat_lt MOST_NODES count then Some TooManyNodes
    else (if nat_le MOST_SWITCHES made then Some TooManySwitches else None)

-- when a transistor can't be added: its strength is none, else its new names make too many nodes, else there are too many transistors
abbrev pub add_fault : CircuitData → ℕ → List ℕ → List ℕ → List ℕ → Option MakingFault
add_fault c strength gate source drain =
    if is_strength c.profile strength
    then limit_fault (nodes (with_nodes c (gate ∷ source ∷ drain ∷ [])).graph) (length c.graph.places)
    else Some BadStrength

-- when no node can be made: there are as many as there may be
abbrev pub full_fault : CircuitData → Option MakingFault
full_fault c = if nat_le MOST_NODES (nodes c.graph) then Some TooManyNodes else None

-- when a name can't come into use: it is new, and no node can be made
abbrev pub node_fault : CircuitData → List ℕ → Option MakingFault
node_fault c name = if is_some (node_of c.names name) then None else full_fault c

-- the circuit with this name in use: as it is where it is already, else as one more name of the node
abbrev pub with_name_of : CircuitData → List ℕ → ℕ → CircuitData
with_name_of c name node =
    if is_some (node_of c.names name) then c else record c { names = c.names ++ (name, node) ∷ [] }

-- the circuit after an alias, by the nodes of both names: a name that isn't in use becomes one of the other's node; if neither
-- is, the first gets a new node, and the second is one more name of it
abbrev pub with_alias_by : CircuitData → List ℕ → List ℕ → Option ℕ → Option ℕ → CircuitData
with_alias_by c first second None None =
    with_name_of (with_new_node c first) second (nodes c.graph)
with_alias_by c first second None (Some node) = with_name_of c first node
with_alias_by c first second (Some node) other = with_name_of c second node

-- the circuit after an alias
abbrev pub with_alias : CircuitData → List ℕ → List ℕ → CircuitData
with_alias c first second = with_alias_by c first second (node_of c.names first) (node_of c.names second)

-- when two names can't be one node's, by their nodes: both have one already, and not the same; or a node is wanted and none can be made
abbrev pub alias_fault_by : CircuitData → Option ℕ → Option ℕ → Option MakingFault
alias_fault_by c None None = full_fault c
alias_fault_by c (Some first) (Some second) = if first == second then None else Some AliasTaken
alias_fault_by c None (Some second) = None
alias_fault_by c (Some first) None = None

-- when an alias is refused
abbrev pub alias_fault : CircuitData → List ℕ → List ℕ → Option MakingFault
alias_fault c first second = alias_fault_by c (node_of c.names first) (node_of c.names second)

-- the circuit with the node at this level
abbrev pub with_level : CircuitData → ℕ → ℕ → CircuitData
with_level c node level = record c { graph = record c.graph { levels = slice_set c.graph.levels node level } }

-- the circuit with the node as an input node
abbrev pub with_input : CircuitData → ℕ → CircuitData
with_input c node = with_level c node INPUT_LEVEL

-- the circuit with the node as a storage node of this size
abbrev pub with_store : CircuitData → ℕ → ℕ → CircuitData
with_store c node size = with_level c node (level_of_size size)

-- when a node can't be made an input node: it is a rail
abbrev pub rail_fault : ℕ → Option EditFault
rail_fault node = if nat_lt node RAILS then Some fault.Rail else None

-- when a node can't be made a storage node: it is a rail, else the size is none
abbrev pub store_fault : Profile → ℕ → ℕ → Option EditFault
store_fault profile node size =
    if nat_lt node RAILS then Some fault.Rail else (if is_size profile size then None else Some fault.BadSize)

-- the switch of the transistor with this number, if there is one: numbers begin at 1
abbrev pub switch_numbered : CircuitData → ℕ → Option Switch
switch_numbered c number = if nat_lt 0 number then place_at c.graph.places (number - 1) else None

-- the circuit with this at the place of the transistor with this number
abbrev pub with_place : CircuitData → ℕ → Option Switch → CircuitData
with_place c number place = record c { graph = record c.graph { places = slice_set c.graph.places (number - 1) place } }

-- the circuit without a transistor: its place is empty, and is never filled again
abbrev pub without_switch : CircuitData → ℕ → CircuitData
without_switch c number = with_place c number None

-- the circuit with a transistor's switch changed
abbrev pub with_changed : CircuitData → ℕ → (Switch → Switch) → CircuitData
with_changed c number change = with_place c number (option_map change (switch_numbered c number))

-- the circuit with a transistor of this kind; its strength and terminals stay
abbrev pub with_kind : CircuitData → ℕ → SwitchKind → CircuitData
with_kind c number kind = with_changed c number (λ switch. record switch { kind = kind })

-- the circuit with a transistor of this strength; its kind and terminals stay
abbrev pub with_strength : CircuitData → ℕ → ℕ → CircuitData
with_strength c number strength = with_changed c number (λ switch. record switch { level = level_of_strength strength })

-- the circuit with a transistor between the nodes of these names: first those that are new, in the order gate, source, drain; its
-- kind and strength stay
abbrev pub with_wires : CircuitData → ℕ → List ℕ → List ℕ → List ℕ → CircuitData
with_wires c number gate source drain =
    let named = with_nodes c (gate ∷ source ∷ drain ∷ []) in
    with_changed named number (λ switch. record switch {
      gate = node_named named gate;
      a = node_named named source;
      b = node_named named drain;
    })

-- when a transistor can't be removed, nor its kind be set: there is none with this number
abbrev pub number_fault : CircuitData → ℕ → Option EditFault
number_fault c number = if is_some (switch_numbered c number) then None else Some fault.NoSuchSwitch

-- when a transistor's strength can't be set: there is none with this number, else the profile doesn't accept the strength
abbrev pub strength_fault : CircuitData → ℕ → ℕ → Option EditFault
strength_fault c number strength =
    if is_some (switch_numbered c number)
    then (if is_strength c.profile strength then None else Some fault.BadStrength)
    else Some fault.NoSuchSwitch

-- the fault of a circuit that would have so many nodes
abbrev pub count_fault : ℕ → Option EditFault
count_fault count = if nat_lt MOST_NODES count then Some fault.TooManyNodes else None

-- when a transistor's terminals can't be set: there is none with this number, else its new names make too many nodes
abbrev pub wire_fault : CircuitData → ℕ → List ℕ → List ℕ → List ℕ → Option EditFault
wire_fault c number gate source drain =
    if is_some (switch_numbered c number)
    then count_fault (nodes (with_nodes c (gate ∷ source ∷ drain ∷ [])).graph)
    else Some fault.NoSuchSwitch

-- what an edit that takes no memory answers: its fault if it has one
abbrev pub answer_of : Option EditFault → Result (Unit {0}) EditFault
answer_of None = Ok tt
answer_of (Some fault) = Err fault
