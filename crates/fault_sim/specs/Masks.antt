-- How a script changes for a node that is stuck: each command is masked in the circuit of its moment.
use Rattle.std.specs.Prelude.{◌≡◌, ℕ, Bool, true, false, not, ◌==◌, List, [], ◌∷◌, map, filter, Option, Some, None, option_map, Result, Ok, Err, if◌then◌else◌}
use Rattle.std.specs.Option.{option_map_or}
use Rattle.ternary.specs.declared.tern.Tern.{Tern}
use Rattle.netlist.specs.Circuits.{CircuitData}
use Rattle.netlist.specs.Names.{node_of}
use Rattle.vector_values.specs.Values.{Letter, plain_value}
use Rattle.script_lang.specs.declared.value.Value.{Value}
use Rattle.script_lang.specs.declared.value.Value.TheVariants as given
use Rattle.node_values.specs.declared.fault.GivenFault.{GivenFault}
use Rattle.node_values.specs.Givings.{is_vector, letters_given}
use Rattle.script_lang.specs.declared.command.Command.{Command}
use Rattle.script_lang.specs.declared.command.Command.TheVariants as family
use Rattle.script_lang.specs.declared.command.Edit.{Edit}
use Rattle.script_lang.specs.declared.command.Edit.TheVariants.{Store}
use Rattle.script_lang.specs.declared.command.Give.{Give}
use Rattle.script_lang.specs.declared.command.Give.TheVariants.{Set, Charge, Back}
use Rattle.script_lang.specs.declared.command.Setup.{Setup}
use Rattle.script_lang.specs.declared.command.Setup.TheVariants.{Clock}
use Rattle.script_lang.specs.declared.command.ScriptFault.{ScriptFault}
use Rattle.script_lang.specs.Commands.{reading_of}
use Rattle.fault_sim.specs.declared.masks.Left.{Left}
use Rattle.fault_sim.specs.declared.masks.Left.TheVariants as rest

-- the name is that of the stuck node, if one is stuck
abbrev pub is_stuck : CircuitData → Option (ℕ × Tern) → List ℕ → Bool
is_stuck c None name = false
is_stuck c (Some stuck) name = option_map_or (λ node. node == stuck.0) (node_of c.names name) false

-- the name is neither that of the stuck node nor that of a vector
abbrev pub IsSpared : CircuitData → List (List ℕ × List ℕ) → Option (ℕ × Tern) → List ℕ → Type 0
IsSpared c vectors stuck name = (is_stuck c stuck name ≡ false) × (is_vector c vectors name ≡ false)

-- the state that a word gives the node of this name: a stuck node has its own
abbrev pub state_for : CircuitData → Option (ℕ × Tern) → List ℕ → Tern → Tern
state_for c None name state = state
state_for c (Some stuck) name state = if is_stuck c (Some stuck) name then stuck.1 else state

-- an edit under a stuck node, if it does anything: `store` of the node does nothing
abbrev pub masked_edit : CircuitData → Option (ℕ × Tern) → Edit → Option Edit
masked_edit c stuck (Store name size) = if is_stuck c stuck name then None else Some (Store name size)
masked_edit c stuck edit = Some edit

-- the value with this state in the place of the one that it gives a node alone
abbrev pub with_own : Tern → Value → Value
with_own own (given.Letter state) = given.Letter own
with_own own (given.Wide value) = given.Wide value
with_own own (given.Alone state) = given.Alone own

-- the letters with this one in the place of each of the node's
abbrev pub masked_letters : ℕ → Letter → List (ℕ × Letter) → List Letter
masked_letters node own pairs = map (λ pair. if pair.0 == node then own else pair.1) pairs

-- the value of a name that is or isn't a vector's, if it gives these letters, with this one in the place of each of the node's
abbrev pub value_by : Bool → ℕ → Letter → Value → Result (List (ℕ × Letter)) GivenFault → Value
value_by false node own value letters = value
value_by true node own value (Ok pairs) = given.Wide (plain_value (masked_letters node own pairs))
value_by true node own value (Err fault) = value

-- the value with this letter in the place of each that it gives the node as one of a vector's
abbrev pub vector_value : CircuitData → List (List ℕ × List ℕ) → ℕ → Letter → List ℕ × Value → Value
vector_value c vectors node own item =
    value_by (is_vector c vectors item.0) node own item.1 (letters_given c vectors item)

-- what `set` gives the nodes of a name: a stuck node has its own state
abbrev pub set_value : CircuitData → List (List ℕ × List ℕ) → Option (ℕ × Tern) → List ℕ × Value → Value
set_value c vectors None item = item.1
set_value c vectors (Some stuck) item =
    if is_stuck c (Some stuck) item.0 then with_own stuck.1 item.1 else vector_value c vectors stuck.0 (Some stuck.1) item

-- all that `set` gives
abbrev pub masked_sets : CircuitData → List (List ℕ × List ℕ) → Option (ℕ × Tern) → List (List ℕ × Value) → List (List ℕ × Value)
masked_sets c vectors stuck list = map (λ item. (item.0, set_value c vectors stuck item)) list

-- what `charge` gives the nodes of a name: a stuck node that a vector has gets nothing
abbrev pub charge_value : CircuitData → List (List ℕ × List ℕ) → Option (ℕ × Tern) → List ℕ × Value → Value
charge_value c vectors None item = item.1
charge_value c vectors (Some stuck) item = vector_value c vectors stuck.0 None item

-- the assignment gives the stuck node alone a state
abbrev pub is_stuck_alone : CircuitData → Option (ℕ × Tern) → List ℕ × Value → Bool
is_stuck_alone c stuck (name, given.Letter state) = is_stuck c stuck name
is_stuck_alone c stuck (name, given.Wide value) = false
is_stuck_alone c stuck (name, given.Alone state) = is_stuck c stuck name

-- all that `charge` gives
abbrev pub masked_charges : CircuitData → List (List ℕ × List ℕ) → Option (ℕ × Tern) → List (List ℕ × Value) → List (List ℕ × Value)
masked_charges c vectors stuck list =
    map (λ item. (item.0, charge_value c vectors stuck item)) (filter (λ item. not (is_stuck_alone c stuck item)) list)

-- `charge` of what is left of its words, if one is
abbrev pub charge_left : List (List ℕ × Value) → Option Give
charge_left [] = None
charge_left (item ∷ items) = Some (Charge (item ∷ items))

-- what gives states under a stuck node, if it does anything: each letter that `set` gives the node is the state at which it is stuck, and
-- each word that names it is taken out of `charge`, as are its letters in vectors; `back` gives it the state at which it is stuck in any
-- case, since it was there at the save
abbrev pub masked_give : CircuitData → List (List ℕ × List ℕ) → Option (ℕ × Tern) → Give → Option Give
masked_give c vectors stuck (Set list) = Some (Set (masked_sets c vectors stuck list))
masked_give c vectors stuck (Charge list) = charge_left (masked_charges c vectors stuck list)
masked_give c vectors stuck (Back name) = Some (Back name)

-- what sets what others go by under a stuck node: each letter that `clock` gives the node is the state at which it is stuck
abbrev pub masked_setup : CircuitData → Option (ℕ × Tern) → Setup → Setup
masked_setup c stuck (Clock list) = Clock (map (λ item. (item.0, map (state_for c stuck item.0) item.1)) list)
masked_setup c stuck setup = setup

-- the command under a stuck node, if it does anything: by its family, and all else stays
abbrev pub masked_of : CircuitData → List (List ℕ × List ℕ) → Option (ℕ × Tern) → Command → Option Command
masked_of c vectors stuck (family.Edit edit) = option_map family.Edit (masked_edit c stuck edit)
masked_of c vectors stuck (family.Give give) = option_map family.Give (masked_give c vectors stuck give)
masked_of c vectors stuck (family.Setup setup) = Some (family.Setup (masked_setup c stuck setup))
masked_of c vectors stuck (family.Run run) = Some (family.Run run)
masked_of c vectors stuck (family.Tell tell) = Some (family.Tell tell)

-- what is left of a command: itself, another one, or nothing
abbrev pub command_left : Command → Left → Option Command
command_left command rest.Same = Some command
command_left command (rest.Other other) = Some other
command_left command rest.Nothing = None

-- what a line asks for, masked; a line that is no command is refused as it is
abbrev pub masked_reading_by : CircuitData → List (List ℕ × List ℕ) → Option (ℕ × Tern) → Result (Option Command) ScriptFault →
    Result (Option Command) ScriptFault
masked_reading_by c vectors stuck (Ok None) = Ok None
masked_reading_by c vectors stuck (Ok (Some command)) = Ok (masked_of c vectors stuck command)
masked_reading_by c vectors stuck (Err fault) = Err fault

-- how a line of the script is read in a circuit with vectors while a node is stuck: so the changed script is that of the changed lines
abbrev pub masked_reading : Option (ℕ × Tern) → CircuitData → List (List ℕ × List ℕ) → List ℕ → Result (Option Command) ScriptFault
masked_reading stuck c vectors line = masked_reading_by c vectors stuck (reading_of line)
