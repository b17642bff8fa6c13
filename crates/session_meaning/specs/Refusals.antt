-- When a command is refused: the first of these causes, in the order in which they stand for its command.
use Rattle.std.specs.Prelude.{ℕ, Bool, ◌+◌, ◌==◌, List, [], ◌∷◌, length, nat_lt, nat_le, unwrap_or, Option, Some, None, Result, Ok, Err, if◌then◌else◌}
use Rattle.std.specs.List.{flat_map}
use Rattle.strength_order.specs.declared.TheConstants.{INPUT_LEVEL}
use Rattle.ternary.specs.declared.tern.Tern.{Tern}
use Rattle.switch_paths.specs.Graphs.{level_of}
use Rattle.switch_paths.specs.declared.TheConstants.{RAILS}
use Rattle.netlist.specs.Names.{node_of}
use Rattle.netlist.specs.Circuits.{CircuitData}
use Rattle.switch_paths.specs.declared.switching.SwitchKind.{SwitchKind}
use Rattle.netlist.specs.Edits.{is_size, usual_strength, add_fault, number_fault, strength_fault, wire_fault}
use Rattle.netlist.specs.Faults.{MakingFault}
use Rattle.netlist.specs.declared.fault.EditFault.{EditFault}
use Rattle.netlist.specs.declared.fault.EditFault.TheVariants as fault
use Rattle.vector_values.specs.Values.{Letter}
use Rattle.script_lang.specs.declared.value.Value.{Value}
use Rattle.node_words.specs.declared.fault.VectorFault.{VectorFault}
use Rattle.node_words.specs.declared.fault.VectorFault.TheVariants as vector
use Rattle.node_words.specs.Words.{named}
use Rattle.node_words.specs.Vectors.{vector_fault}
use Rattle.node_values.specs.declared.fault.GivenFault.{GivenFault}
use Rattle.node_values.specs.declared.fault.GivenFault.TheVariants as given
use Rattle.node_values.specs.Givings.{is_misplaced, letters_given, states_given}
use Rattle.script_lang.specs.declared.command.Command.{Command}
use Rattle.script_lang.specs.declared.command.Command.TheVariants as family
use Rattle.script_lang.specs.declared.command.Edit.{Edit}
use Rattle.script_lang.specs.declared.command.Edit.TheVariants.{Input, Store, Add, Del, Strength, Kind, Wire}
use Rattle.script_lang.specs.declared.command.Give.{Give}
use Rattle.script_lang.specs.declared.command.Give.TheVariants.{Set, Charge, Back}
use Rattle.script_lang.specs.declared.command.Setup.{Setup}
use Rattle.script_lang.specs.declared.command.Setup.TheVariants.{Watch, Limit, Clock, Keep, Widen, Save, Vector}
use Rattle.script_lang.specs.declared.command.Run.{Run}
use Rattle.script_lang.specs.declared.command.Run.TheVariants.{Step, Phase, Cycle, Report}
use Rattle.script_lang.specs.declared.command.Tell.{Tell}
use Rattle.script_lang.specs.declared.command.Tell.TheVariants.{Expect, Show, Look}
use Rattle.session_meaning.specs.declared.TheConstants.{MOST_WATCHED, MOST_SAVES}
use Rattle.session_meaning.specs.declared.fault.Refusal.{Refusal}
use Rattle.session_meaning.specs.declared.fault.Refusal.TheVariants.{UnknownNode, NoSuchSwitch, Rail, BadStrength, BadSize, TooManyNodes, TooManySwitches, NotInput, NotStore, ClockLength, NoClock, TooManyWatched, BadValue, NameTaken, TooMany, VectorValue, TooManySaves, NoSave}
use Rattle.session_meaning.specs.Saves.{kept_under, other_saves}
use Rattle.session_meaning.specs.Sessions.{SessionData, ClockData}

-- one refusal, or else another
abbrev pub or_else : Option Refusal → Option Refusal → Option Refusal
or_else (Some refusal) other = Some refusal
or_else None other = other

-- the first refusal that there is among those of these items
abbrev pub first_refusal : {X : Type 0} → (X → Option Refusal) → List X → Option Refusal
first_refusal f [] = None
first_refusal f (item ∷ items) = or_else (f item) (first_refusal f items)

-- the node is an input node
abbrev pub is_input : CircuitData → ℕ → Bool
is_input c node = level_of c.graph node == INPUT_LEVEL

-- the name isn't in use
abbrev pub known_refusal : {X : Type 0} → Option X → Option Refusal
known_refusal None = Some UnknownNode
known_refusal (Some named) = None

-- the node is a rail
abbrev pub rail_at : ℕ → Option Refusal
rail_at node = if nat_lt node RAILS then Some Rail else None

-- the name isn't in use, or some node of it is refused
abbrev pub named_refusal : (ℕ → Option Refusal) → Option (List ℕ) → Option Refusal
named_refusal at None = Some UnknownNode
named_refusal at (Some list) = first_refusal at list

-- the name isn't in use, is a rail's, or the profile doesn't accept the size
abbrev pub store_refusal : CircuitData → ℕ → Option ℕ → Option Refusal
store_refusal c size None = Some UnknownNode
store_refusal c size (Some node) =
    if nat_lt node RAILS then Some Rail else (if is_size c.profile size then None else Some BadSize)

-- the node is a rail, or a storage node
abbrev pub set_at : CircuitData → ℕ → Option Refusal
set_at c node = if nat_lt node RAILS then Some Rail else (if is_input c node then None else Some NotInput)

-- the node is a rail, or an input node
abbrev pub charge_at : CircuitData → ℕ → Option Refusal
charge_at c node = if nat_lt node RAILS then Some Rail else (if is_input c node then Some NotStore else None)

-- no node is refused if it is looked at alone
abbrev pub none_at : ℕ → Option Refusal
none_at node = None

-- the name isn't in use, is a rail's, or is a storage node's
abbrev pub set_refusal : CircuitData → Option ℕ → Option Refusal
set_refusal c None = Some UnknownNode
set_refusal c (Some node) = set_at c node

-- a value that may stand at a vector alone stands at another name
abbrev pub place_refusal : CircuitData → List (List ℕ × List ℕ) → List ℕ × Value → Option Refusal
place_refusal c vectors item = if is_misplaced c vectors item then Some BadValue else None

-- the name isn't in use, or the value doesn't fit its vector, or some node that is given a state is refused; lack of memory is no refusal
abbrev pub given_refusal : (ℕ → Option Refusal) → Result (List (ℕ × Letter)) GivenFault → Option Refusal
given_refusal at (Ok pairs) = first_refusal (λ pair. at pair.0) (states_given pairs)
given_refusal at (Err given.UnknownNode) = Some UnknownNode
given_refusal at (Err given.VectorValue) = Some VectorValue
given_refusal at (Err given.NoMemory) = None

-- what the assignments give is refused, from left to right
abbrev pub givings_refusal : (ℕ → Option Refusal) → CircuitData → List (List ℕ × List ℕ) → List (List ℕ × Value) → Option Refusal
givings_refusal at c vectors list = first_refusal (λ item. given_refusal at (letters_given c vectors item)) list

-- some value stands where it may not, or else what the assignments give is refused
abbrev pub values_refusal : (ℕ → Option Refusal) → CircuitData → List (List ℕ × List ℕ) → List (List ℕ × Value) → Option Refusal
values_refusal at c vectors list = or_else (first_refusal (place_refusal c vectors) list) (givings_refusal at c vectors list)

-- the name is that of a node, or a word stands for none, or there are too many entries; lack of memory is no refusal
abbrev pub vector_refusal : Option VectorFault → Option Refusal
vector_refusal None = None
vector_refusal (Some vector.NameTaken) = Some NameTaken
vector_refusal (Some vector.UnknownNode) = Some UnknownNode
vector_refusal (Some vector.TooMany) = Some TooMany
vector_refusal (Some vector.NoMemory) = None

-- all nodes of names, in order
abbrev pub nodes_named : CircuitData → List (List ℕ × List ℕ) → List ℕ → List ℕ
nodes_named c vectors name = unwrap_or (named c vectors name) []

abbrev pub all_named : CircuitData → List (List ℕ × List ℕ) → List (List ℕ) → List ℕ
all_named c vectors names = flat_map (nodes_named c vectors) names

-- the watch list would be too long
abbrev pub watch_refusal : ℕ → Option Refusal
watch_refusal count = if nat_lt MOST_WATCHED count then Some TooManyWatched else None

-- as many other names keep states as may
abbrev pub save_refusal : List (List ℕ × List Tern) → List ℕ → Option Refusal
save_refusal saves name = if nat_le MOST_SAVES (other_saves saves name) then Some TooManySaves else None

-- nothing is kept
abbrev pub back_refusal : Option (List Tern) → Option Refusal
back_refusal None = Some NoSave
back_refusal (Some state) = None

-- two clocks have different numbers of letters: some clock has another number than the first
abbrev pub length_refusal : List (List ℕ × List Tern) → Option Refusal
length_refusal [] = None
length_refusal (first ∷ others) =
    first_refusal (λ other. if length other.1 == length first.1 then None else Some ClockLength) others

-- a clock's node is no input node any more
abbrev pub clock_refusal : CircuitData → ClockData → Option Refusal
clock_refusal c clock = if is_input c clock.node then None else Some NotInput

-- there are no clocks, or some clock's node is no input node any more
abbrev pub cycle_refusal : CircuitData → List ClockData → Option Refusal
cycle_refusal c [] = Some NoClock
cycle_refusal c (clock ∷ clocks) = first_refusal (clock_refusal c) (clock ∷ clocks)

-- the strength that a transistor is added with: the one that is given, else that of its kind
abbrev pub strength_for : SwitchKind → Option ℕ → ℕ
strength_for kind strength = unwrap_or strength (usual_strength kind)

-- the refusal of an edit that makes names or a transistor; such an edit gives no node a second name
abbrev pub making_refusal : Option MakingFault → Option Refusal
making_refusal None = None
making_refusal (Some MakingFault.BadStrength) = Some BadStrength
making_refusal (Some MakingFault.AliasTaken) = None
making_refusal (Some MakingFault.TooManyNodes) = Some TooManyNodes
making_refusal (Some MakingFault.TooManySwitches) = Some TooManySwitches

-- the refusal of an edit of a transistor that is there; such an edit gives no node a second name, and its lack of memory is no refusal
abbrev pub edit_refusal : Option EditFault → Option Refusal
edit_refusal None = None
edit_refusal (Some fault.NoSuchSwitch) = Some NoSuchSwitch
edit_refusal (Some fault.Rail) = Some Rail
edit_refusal (Some fault.BadStrength) = Some BadStrength
edit_refusal (Some fault.BadSize) = Some BadSize
edit_refusal (Some fault.AliasTaken) = None
edit_refusal (Some fault.TooManyNodes) = Some TooManyNodes
edit_refusal (Some fault.TooManySwitches) = Some TooManySwitches
edit_refusal (Some fault.NoMemory) = None

-- the refusal of an edit, by the circuit before it and the vectors
abbrev pub refusal_of_edit : CircuitData → List (List ℕ × List ℕ) → Edit → Option Refusal
refusal_of_edit c vectors (Input names) = first_refusal (λ name. named_refusal rail_at (named c vectors name)) names
refusal_of_edit c vectors (Store name size) = store_refusal c size (node_of c.names name)
refusal_of_edit c vectors (Add kind gate source drain strength) =
    making_refusal (add_fault c (strength_for kind strength) gate source drain)
refusal_of_edit c vectors (Del number) = edit_refusal (number_fault c number)
refusal_of_edit c vectors (Strength number strength) = edit_refusal (strength_fault c number strength)
refusal_of_edit c vectors (Kind number kind) = edit_refusal (number_fault c number)
refusal_of_edit c vectors (Wire number gate source drain) = edit_refusal (wire_fault c number gate source drain)

-- of a command that gives nodes states
abbrev pub refusal_of_give : SessionData → Give → Option Refusal
refusal_of_give session (Set list) = values_refusal (set_at session.circuit) session.circuit session.vectors list
refusal_of_give session (Charge list) = values_refusal (charge_at session.circuit) session.circuit session.vectors list
refusal_of_give session (Back name) = back_refusal (kept_under session.saves name)

-- of one that sets what others go by
abbrev pub refusal_of_setup : SessionData → Setup → Option Refusal
refusal_of_setup session (Watch names) =
    or_else (first_refusal (λ name. known_refusal (named session.circuit session.vectors name)) names)
    (watch_refusal (length session.watched + length (all_named session.circuit session.vectors names)))
refusal_of_setup session (Limit number) = None
refusal_of_setup session (Clock list) =
    or_else (length_refusal list) (first_refusal (λ item. set_refusal session.circuit (node_of session.circuit.names item.0)) list)
refusal_of_setup session (Keep number) = None
refusal_of_setup session (Widen number) = None
refusal_of_setup session (Save name) = save_refusal session.saves name
refusal_of_setup session (Vector name words) = vector_refusal (vector_fault session.circuit session.vectors name words)

-- of one that has the circuit built, by the data alone
abbrev pub refusal_of_run : CircuitData → List ClockData → Run → Option Refusal
refusal_of_run c clocks Step = None
refusal_of_run c clocks Phase = None
refusal_of_run c clocks (Cycle number) = cycle_refusal c clocks
refusal_of_run c clocks Report = None

-- of one that tells
abbrev pub refusal_of_tell : CircuitData → List (List ℕ × List ℕ) → Tell → Option Refusal
refusal_of_tell c vectors (Expect list) = values_refusal none_at c vectors list
refusal_of_tell c vectors (Show names) = first_refusal (λ name. known_refusal (named c vectors name)) names
refusal_of_tell c vectors (Look names) = first_refusal (λ name. known_refusal (node_of c.names name)) names

-- the refusal of a command, by the data before it: no state is a cause of one
abbrev pub refusal_of : SessionData → Command → Option Refusal
refusal_of session (family.Edit edit) = refusal_of_edit session.circuit session.vectors edit
refusal_of session (family.Give give) = refusal_of_give session give
refusal_of session (family.Setup setup) = refusal_of_setup session setup
refusal_of session (family.Run run) = refusal_of_run session.circuit session.clocks run
refusal_of session (family.Tell tell) = refusal_of_tell session.circuit session.vectors tell
