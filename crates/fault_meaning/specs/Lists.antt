-- A list of faults: the faults that its lines name in a circuit, in order, or its first refused line.
-- The form of the list is this project's own.
use Rattle.std.specs.Prelude.{ℕ, List, [], ◌∷◌, ◌++◌, Option, Some, None, Result, Ok, Err, if◌then◌else◌}
use Rattle.line_words.specs.Files.{cut_line, is_cut, lines_in}
use Rattle.netlist.specs.Circuits.{CircuitData}
use Rattle.printed_lines.specs.declared.faults.FaultCode.{FaultCode}
use Rattle.printed_lines.specs.declared.faults.FaultCode.TheVariants as code
use Rattle.fault_sim.specs.declared.fault.Fault.{Fault}
use Rattle.fault_sim.specs.declared.fault.ListFault.{ListFault}
use Rattle.fault_sim.specs.declared.fault.ListFault.TheVariants.{LineTooLong, BadByte, BadFault, NoSuchSwitch, UnknownNode, Rail}
use Rattle.fault_sim.specs.Faults.{fault_of_line}
use Rattle.fault_meaning.specs.declared.listed.ListedFault.{ListedFault}
use Rattle.fault_meaning.specs.declared.listed.ListRefusal.{ListRefusal}

-- the code of a refused line of a list
abbrev pub list_code : ListFault → FaultCode
list_code LineTooLong = code.L1LineTooLong
list_code BadByte = code.L2BadByte
list_code BadFault = code.F1BadFault
list_code NoSuchSwitch = code.E2NoSuchSwitch
list_code UnknownNode = code.E1UnknownNode
list_code Rail = code.E3Rail

-- what a line is, with the code of its refusal
abbrev pub with_code : Result (Option Fault) ListFault → Result (Option Fault) FaultCode
with_code (Ok found) = Ok found
with_code (Err refused) = Err (list_code refused)

-- what a line of a list is in a circuit: refused where it holds the first byte too many of the list, else as it is read
abbrev pub listed_at : CircuitData → Option ℕ → ℕ × List ℕ → Result (Option Fault) FaultCode
listed_at c cut line = if is_cut cut line.0 then Err code.F2TooLong else with_code (fault_of_line c line.1)

-- the fault that a line with this number names, where it names one
abbrev pub faults_at : ℕ → Option Fault → List ListedFault
faults_at number None = []
faults_at number (Some fault) = record { line = number; fault = fault } ∷ []

-- some faults before those that were read after them, unless a line was refused there
abbrev pub put_before : List ListedFault → Result (List ListedFault) ListRefusal → Result (List ListedFault) ListRefusal
put_before some (Ok after) = Ok (some ++ after)
put_before some (Err refusal) = Err refusal

-- the fault of a line with this number and those of the lines after it; the first refused line is told alone
abbrev pub with_line : ℕ → Result (Option Fault) FaultCode → Result (List ListedFault) ListRefusal → Result (List ListedFault) ListRefusal
with_line number (Err refused) after = Err (record { line = number; code = refused })
with_line number (Ok found) after = put_before (faults_at number found) after

-- the faults of lines in order, each with the number of its line, or the first refused line
abbrev pub faults_of : CircuitData → Option ℕ → List (ℕ × List ℕ) → Result (List ListedFault) ListRefusal
faults_of c cut [] = Ok []
faults_of c cut (line ∷ lines) = with_line line.0 (listed_at c cut line) (faults_of c cut lines)

-- the faults of a list, or its first refused line
abbrev pub faults_in : CircuitData → List ℕ → Result (List ListedFault) ListRefusal
faults_in c text = faults_of c (cut_line text) (lines_in text)
