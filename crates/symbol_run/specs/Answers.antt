-- The end of a symbolic script: the line of the refusal that ends it, if one does, and its answer.
use Rattle.std.specs.Prelude.{◌≡◌, ℕ, Bool, true, false, List, [], Option, None, Some, Result, Ok, Err, if◌then◌else◌}
use Rattle.std.specs.Option.{option_map_or}
use Rattle.std.specs.Io.KnownBytes.{append_known}
use Rattle.ports.specs.Sending.{WritesPart}
use Rattle.netlist.specs.Circuits.{CircuitData}
use Rattle.group_text.specs.Texts.{GroupTextData}
use Rattle.circuit_texts.specs.Sizes.{TellsRefused}
use Rattle.printed_lines.specs.declared.faults.FaultPlace.TheVariants.{Script}
use Rattle.printed_lines.specs.declared.faults.FaultCode.{FaultCode}
use Rattle.printed_lines.specs.declared.faults.FaultCode.TheVariants.{S18NameDefined, S19TooManyVariables}
use Rattle.run_ends.specs.declared.stop.End as end
use Rattle.run_ends.specs.declared.stop.End.TheVariants as ended
use Rattle.run_ends.specs.declared.stop.Stop.{Stop}
use Rattle.run_ends.specs.Answers.{Answer, IsAnalysed, IsWritten}
use Rattle.run_ends.specs.Causes.{Cause, cause_line, plain_cause, size_cause}
use Rattle.run_ends.specs.Ends.{status_of}
use Rattle.session_meaning.specs.Sessions.{SessionData}
use Rattle.script_meaning.specs.declared.halt.Halt.{Halt}
use Rattle.script_meaning.specs.declared.halt.Halt.TheVariants.{End, Refused, TooLarge}
use Rattle.symbol_lines.specs.declared.names.NameFault.{NameFault}
use Rattle.symbol_lines.specs.declared.names.NameFault.TheVariants.{NameDefined, NoMemory, TooManyVariables}
use Rattle.symbol_meaning.specs.Scripts.{NamedStop}
use Rattle.symbol_meaning.specs.Runs.{IsSymbolicAnswer, StopsFull}
use Rattle.symbol_run.specs.declared.session.SymbolFault.{SymbolFault}
use Rattle.symbol_run.specs.declared.session.SymbolFault.TheVariants.{Full, Stopped}

-- the code of a refusal by names; no script is refused for lack of memory
abbrev pub name_code : NameFault → FaultCode
name_code TooManyVariables = S19TooManyVariables
name_code NameDefined = S18NameDefined
name_code NoMemory = S18NameDefined

-- the line of the refusal of a group that is too large, if it is one
abbrev pub size_text : ℕ → Option Cause → List ℕ
size_text line cause = option_map_or (cause_line (Script line)) cause []

-- the line of the refusal by names, if there is one
abbrev pub names_text : Option NamedStop → List ℕ
names_text None = []
names_text (Some stop) = cause_line (Script stop.0) (plain_cause (name_code stop.1))

-- the line of the refusal that ended the lines, or else of that by names
abbrev pub cause_text : CircuitData → Halt → Option NamedStop → List ℕ
cause_text circuit End stop = names_text stop
cause_text circuit (Refused line code) stop = cause_line (Script line) (plain_cause code)
cause_text circuit (TooLarge line fault) stop = size_text line (size_cause circuit fault)

-- the lines ended without a refusal, also by names
abbrev pub is_whole : Halt → Option NamedStop → Bool
is_whole End None = true
is_whole End (Some stop) = false
is_whole (Refused number code) stop = false
is_whole (TooLarge number fault) stop = false

-- how the script ends
abbrev pub ending_of : Halt → Option NamedStop → Bool → end.End
ending_of End None missed = if missed then ended.Mismatch else ended.Done
ending_of End (Some stop) missed = ended.ScriptRefused
ending_of (Refused line code) stop missed = ended.ScriptRefused
ending_of (TooLarge line fault) stop missed = ended.ScriptRefused

-- if a group is too large it is the first of the circuit under some bound
abbrev pub HasEnding : CircuitData → Halt → Type 0
HasEnding circuit End = Unit {0}
HasEnding circuit (Refused line code) = Unit {0}
HasEnding circuit (TooLarge line fault) = (large : ℕ) × TellsRefused large circuit.graph fault

-- a right answer was written whole, and its texts were analysed; at a fault a part of one
abbrev pub IsEndedBy : Option ℕ → SessionData → List (ℕ × List ℕ) → Option (List ℕ) → Option (List ℕ) → List GroupTextData → List GroupTextData →
    Result end.End Stop → Type 0
IsEndedBy cut start lines old new asked known (Ok ending) =
    IsWritten (IsAnalysed (IsSymbolicAnswer cut start lines) asked known) old new (status_of ending)
IsEndedBy cut start lines old new asked known (Err stop) = (answer : Answer) × IsSymbolicAnswer cut start lines answer × WritesPart old new answer.text

-- the same of a whole run, and where vertices ran out as `StopsFull` says
abbrev pub IsAnsweredBy : Option ℕ → SessionData → List (ℕ × List ℕ) → Option (List ℕ) → Option (List ℕ) → List GroupTextData → List GroupTextData →
    Result end.End SymbolFault → Type 0
IsAnsweredBy cut start lines old new asked known (Ok ending) =
    IsWritten (IsAnalysed (IsSymbolicAnswer cut start lines) asked known) old new (status_of ending)
IsAnsweredBy cut start lines old new asked known (Err (Stopped stop)) =
    (answer : Answer) × IsSymbolicAnswer cut start lines answer × WritesPart old new answer.text
IsAnsweredBy cut start lines old new asked known (Err (Full number)) =
    (written : List ℕ) × (new ≡ append_known old written) × StopsFull cut start lines number written
