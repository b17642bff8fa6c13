-- What a run under all valuations of a script's variables comes to: its answer, or where vertices ran out.
use Rattle.std.specs.Prelude.{◌≡◌, ℕ, false, List, Option, Some, Result, Ok, Err}
use Rattle.std.specs.Io.KnownBytes.{append_known}
use Rattle.line_words.specs.Files.{lines_in, cut_line}
use Rattle.netlist.specs.Circuits.{CircuitData}
use Rattle.group_text.specs.Texts.{GroupTextData}
use Rattle.run_ends.specs.declared.stop.End as end
use Rattle.run_ends.specs.declared.stop.Stop.{Stop}
use Rattle.run_ends.specs.declared.stop.Stop.TheVariants.{Memory, Read, Write}
use Rattle.run_ends.specs.declared.status.Status.{Status}
use Rattle.run_ends.specs.declared.status.Status.TheVariants as status
use Rattle.run_ends.specs.Answers.{Answer, IsAnalysed, IsStopped, IsWritten}
use Rattle.run_ends.specs.Ends.{status_after, status_of}
use Rattle.session_meaning.specs.Sessions.{start_of}
use Rattle.symbol_meaning.specs.Runs.{IsSymbolicAnswer, StopsFull}
use Rattle.symbol_meaning.specs.Scripts.{bound_of_script, read_of}
use Rattle.symbol_run.specs.Answers.{IsAnsweredBy}
use Rattle.symbol_run.specs.declared.session.SymbolFault.{SymbolFault}
use Rattle.symbol_run.specs.declared.session.SymbolFault.TheVariants as fault
use Rattle.symbol_app.specs.declared.ends.SymbolEnd.{SymbolEnd}
use Rattle.symbol_app.specs.declared.ends.SymbolEnd.TheVariants.{Ended, Full}
use Rattle.cosmos_app.specs.declared.named.CircuitRefusal.{CircuitRefusal}
use Rattle.cosmos_app.specs.Named.{IsCircuitRefusal, circuit_named}

-- ---- ends

-- the status of a run under all valuations
abbrev pub status_in_all : Result SymbolEnd Stop → Status
status_in_all (Ok (Ended end)) = status_of end
status_in_all (Ok (Full vertices line)) = status.Full
status_in_all (Err stop) = status_after (Err stop)

-- a right answer was written whole, and its texts were analysed; if vertices ran out, what was written is as is said of so many vertices and the line;
-- where the run stopped, nothing or a part of a right answer was written
abbrev pub IsToldInAll : (Answer → Type 0) → (ℕ → Option ℕ → List ℕ → Type 0) → Option (List ℕ) → Option (List ℕ) → List GroupTextData → List GroupTextData →
    Result SymbolEnd Stop → Type 0
IsToldInAll IsRight RunsOut old new before after (Ok (Ended end)) = IsWritten (IsAnalysed IsRight before after) old new (status_of end)
IsToldInAll IsRight RunsOut old new before after (Ok (Full vertices line)) = (written : List ℕ) × (new ≡ append_known old written) × RunsOut vertices line written
IsToldInAll IsRight RunsOut old new before after (Err stop) = IsStopped IsRight old new

-- it is so under no number of vertices
abbrev pub IsNever : ℕ → Option ℕ → List ℕ → Type 0
IsNever vertices line written = ⊥

-- what stops a run that reads no file: the sink, or memory
abbrev pub stop_unread : Stop → Stop
stop_unread Write = Write
stop_unread Read = Memory
stop_unread Memory = Memory

-- how the run of a script ends, which may have so many vertices
abbrev pub ended_run : ℕ → Result end.End SymbolFault → Result SymbolEnd Stop
ended_run vertices (Ok ending) = Ok (Ended ending)
ended_run vertices (Err (fault.Stopped stop)) = Err (stop_unread stop)
ended_run vertices (Err (fault.Full number)) = Ok (Full vertices (Some number))

-- ---- a script in a circuit

-- the answer of a script's lines under all valuations, from the start in a circuit
abbrev pub IsSymbolic : List ℕ → CircuitData → Answer → Type 0
IsSymbolic script circuit answer = IsSymbolicAnswer (cut_line script) (start_of circuit) (lines_in script) answer

-- there may be as many vertices as the script says, and one more was wanted at a line
pub record RunsOutAt (script : List ℕ) (circuit : CircuitData) (vertices : ℕ) (line : Option ℕ) (written : List ℕ) : Type 0 where
  pub bound : vertices ≡ bound_of_script (read_of false (cut_line script) (lines_in script))
  pub number : ℕ
  pub at_line : line ≡ Some number
  pub stops : StopsFull (cut_line script) (start_of circuit) (lines_in script) number written

-- a run was broken off before its first line: nothing was written
abbrev pub IsBrokenAtStart : List ℕ → CircuitData → SymbolFault → Type 0
IsBrokenAtStart script circuit why =
    (old : Option (List ℕ)) (asked : List GroupTextData) → IsAnsweredBy (cut_line script) (start_of circuit) (lines_in script) old old asked asked (Err why)

-- ---- over a netlist or a deck

-- the answer over one that means this: that in its circuit, or its refusal
abbrev pub IsSymbolicOver : List ℕ → Result CircuitData CircuitRefusal → Answer → Type 0
IsSymbolicOver script (Ok circuit) answer = IsSymbolic script circuit answer
IsSymbolicOver script (Err refusal) answer = IsCircuitRefusal refusal answer

-- vertices run out in a circuit alone
abbrev pub RunsOutOver : List ℕ → Result CircuitData CircuitRefusal → ℕ → Option ℕ → List ℕ → Type 0
RunsOutOver script (Ok circuit) vertices line written = RunsOutAt script circuit vertices line written
RunsOutOver script (Err refusal) vertices line written = IsNever vertices line written

-- so it was told of what two names hold: of a deck if the first is the name of one, and else of a netlist; and of a script
abbrev pub IsSymbolicTo : List ℕ → List ℕ → (List ℕ → List ℕ) → Option (List ℕ) → Option (List ℕ) → List GroupTextData → List GroupTextData →
    Result SymbolEnd Stop → Type 0
IsSymbolicTo net script holds old new before after result =
    IsToldInAll (IsSymbolicOver (holds script) (circuit_named net (holds net))) (RunsOutOver (holds script) (circuit_named net (holds net)))
    old new before after result
