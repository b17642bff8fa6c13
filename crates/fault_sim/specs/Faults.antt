-- The lines of a list of faults: which fault a line names in a circuit, if any, and why it is refused.
-- The form of the list is this project's own.
use Rattle.std.specs.Prelude.{◌≡◌, ◌≢◌, ℕ, ◌<◌, ◌≤◌, true, List, [], ◌∷◌, codes, bytes_eq, is_some, nat_lt, Option, Some, None, Result, Ok, Err, if◌then◌else◌}
use Rattle.ternary.specs.declared.tern.Tern.TheVariants.{Zero, One, Unk}
use Rattle.switch_paths.specs.Graphs.{nodes}
use Rattle.switch_paths.specs.declared.TheConstants.{RAILS}
use Rattle.line_words.specs.declared.line_check.LineFault.{LineFault}
use Rattle.line_words.specs.declared.line_check.LineFault.TheVariants as of_line
use Rattle.line_words.specs.Decimals.{decimal_of}
use Rattle.line_words.specs.LineFaults.{line_fault, is_comment}
use Rattle.line_words.specs.Words.{words_of}
use Rattle.netlist.specs.Circuits.{CircuitData}
use Rattle.netlist.specs.Names.{node_of}
use Rattle.netlist.specs.Edits.{switch_numbered}
use Rattle.fault_sim.specs.declared.fault.Fault.{Fault}
use Rattle.fault_sim.specs.declared.fault.Fault.TheVariants.{Open, Closed, Stuck}
use Rattle.fault_sim.specs.declared.fault.Kind.{Kind}
use Rattle.fault_sim.specs.declared.fault.Kind.TheVariants as kind
use Rattle.fault_sim.specs.declared.fault.ListFault.{ListFault}
use Rattle.fault_sim.specs.declared.fault.ListFault.TheVariants.{LineTooLong, BadByte, BadFault, NoSuchSwitch, UnknownNode, Rail}

-- the number of a transistor that there is
abbrev pub number_of : CircuitData → Option ℕ → Result ℕ ListFault
number_of c None = Err BadFault
number_of c (Some number) = if is_some (switch_numbered c number) then Ok number else Err NoSuchSwitch

-- a node that there is and that is no rail
abbrev pub free_node : Option ℕ → Result ℕ ListFault
free_node None = Err UnknownNode
free_node (Some node) = if nat_lt node RAILS then Err Rail else Ok node

-- the kind of fault that a word names, compared byte by byte
abbrev pub kind_of : List ℕ → Option Kind
kind_of word =
    if bytes_eq word (codes "open") then Some kind.Open
    else (if bytes_eq word (codes "closed") then Some kind.Closed
    else (if bytes_eq word (codes "zero") then Some kind.Zero
    else (if bytes_eq word (codes "one") then Some kind.One else None)))

-- the fault of what is there, or why that isn't
abbrev pub fault_with : (ℕ → Fault) → Result ℕ ListFault → Result Fault ListFault
fault_with fault (Ok subject) = Ok (fault subject)
fault_with fault (Err refused) = Err refused

-- the fault of this kind: a transistor by its number is open or closed, a node by its name is stuck at 0 or at 1
abbrev pub fault_of : CircuitData → Kind → List ℕ → Result Fault ListFault
fault_of c kind.Open subject = fault_with Open (number_of c (decimal_of subject))
fault_of c kind.Closed subject = fault_with Closed (number_of c (decimal_of subject))
fault_of c kind.Zero subject = fault_with (λ node. Stuck node Zero) (free_node (node_of c.names subject))
fault_of c kind.One subject = fault_with (λ node. Stuck node One) (free_node (node_of c.names subject))

-- the fault of the kind that a word names, if it names one
abbrev pub fault_named : CircuitData → Option Kind → List ℕ → Result Fault ListFault
fault_named c None subject = Err BadFault
fault_named c (Some kind) subject = fault_of c kind subject

-- a fault that is there
abbrev pub some_fault : Result Fault ListFault → Result (Option Fault) ListFault
some_fault (Ok fault) = Ok (Some fault)
some_fault (Err refused) = Err refused

-- the words of a line: none name nothing, else there are two
abbrev pub fault_of_words : CircuitData → List (List ℕ) → Result (Option Fault) ListFault
fault_of_words c [] = Ok None
fault_of_words c (word ∷ []) = Err BadFault
fault_of_words c (word ∷ subject ∷ []) = some_fault (fault_named c (kind_of word) subject)
fault_of_words c (word ∷ subject ∷ other ∷ words) = Err BadFault

-- a line, by its fault as a line of any text; a comment names nothing
abbrev pub fault_by : CircuitData → List ℕ → Option LineFault → Result (Option Fault) ListFault
fault_by c line (Some of_line.TooLong) = Err LineTooLong
fault_by c line (Some of_line.BadByte) = Err BadByte
fault_by c line None = if is_comment line then Ok None else fault_of_words c (words_of line)

-- what a line of a list is in a circuit: a fault, nothing, or refused. The cases stand in the order in which one refusal wins
abbrev pub fault_of_line : CircuitData → List ℕ → Result (Option Fault) ListFault
fault_of_line c line = fault_by c line (line_fault line)

-- the fault is one that a line can name: its transistor is there, or its node is there and no rail, and the state is 0 or 1
abbrev pub IsFault : CircuitData → Fault → Type 0
IsFault c (Open number) = is_some (switch_numbered c number) ≡ true
IsFault c (Closed number) = is_some (switch_numbered c number) ≡ true
IsFault c (Stuck node state) = (RAILS ≤ node) × (node < nodes c.graph) × (state ≢ Unk)
