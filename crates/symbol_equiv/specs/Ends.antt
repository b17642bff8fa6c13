-- How two runs of a script that are compared end, and what was written by then.
use Rattle.std.specs.Prelude.{◌≡◌, ℕ, true, ◌⊎◌, List, ◌++◌, codes, Option, None, Result, Ok, Err}
use Rattle.std.specs.Io.KnownBytes.{append_known}
use Rattle.ports.specs.Sending.{WritesPart}
use Rattle.group_text.specs.Texts.{GroupTextData}
use Rattle.decision_graph.specs.declared.graph.GraphFault.{GraphFault}
use Rattle.decision_graph.specs.declared.graph.GraphFault.TheVariants as graph
use Rattle.truth_makers.specs.declared.symbols.Symbols.{Symbols}
use Rattle.run_ends.specs.declared.stop.End as end
use Rattle.run_ends.specs.declared.stop.End.TheVariants as ended
use Rattle.run_ends.specs.declared.stop.Stop.TheVariants.{Memory}
use Rattle.run_ends.specs.Answers.{IsAnalysed, IsStopped, IsWritten}
use Rattle.run_ends.specs.Ends.{status_of}
use Rattle.run_ends.specs.Stops.{written_at, IsRefusedAt}
use Rattle.session_meaning.specs.Sessions.{SessionData, places_of}
use Rattle.script_meaning.specs.Runs.{RefusedLine}
use Rattle.symbol_meaning.specs.Readings.{Valuations, valuations_of}
use Rattle.symbol_meaning.specs.Scripts.{before_stop, read_of, stop_of}
use Rattle.symbol_meaning.specs.Runs.{end_text}
use Rattle.symbol_meaning.specs.Comparing.{IsEnded, IsEqualAnswer, RunsIn, Shown, ShowsIn}
use Rattle.symbol_told.specs.Noting.{NotesData}
use Rattle.symbol_comparing.specs.Notes.{names_of, shown_in}
use Rattle.symbol_comparing.specs.Told.{AreValuationsOf, TellsAll, TellsSome}
use Rattle.symbol_comparing.specs.declared.fault.CompareFault.{CompareFault}
use Rattle.symbol_comparing.specs.declared.fault.CompareFault.TheVariants as compare
use Rattle.symbol_run.specs.declared.session.SymbolFault.{SymbolFault}
use Rattle.symbol_run.specs.declared.session.SymbolFault.TheVariants as session
use Rattle.symbol_run.specs.Halts.{StopsAmong}
use Rattle.symbol_equiv.specs.declared.fault.EqualFault.{EqualFault}
use Rattle.symbol_equiv.specs.declared.fault.EqualFault.TheVariants.{Stopped, FullAt, Full}
use Rattle.symbol_equiv.specs.declared.runs.Ran.{Ran}
use Rattle.symbol_equiv.specs.declared.runs.Ran.TheVariants.{Noted, Refused}
use Rattle.symbol_equiv.specs.Notes.{AreNotes, StillShow}
use Rattle.symbol_equiv.specs.Words.{all_watched}

-- ---- faults

-- what a fault of a run ends it with, one of the maker when a run is done, and one of the comparison
abbrev pub fault_of_run : SymbolFault → EqualFault
fault_of_run (session.Stopped stop) = Stopped stop
fault_of_run (session.Full number) = FullAt number

abbrev pub fault_of_graph : GraphFault → EqualFault
fault_of_graph graph.NoMemory = Stopped Memory
fault_of_graph graph.Full = Full

abbrev pub fault_of_comparing : CompareFault → EqualFault
fault_of_comparing (compare.Stopped stop) = Stopped stop
fault_of_comparing compare.Full = Full

-- memory ran out, or vertices, and no line is told
abbrev pub LeavesUnwritten : EqualFault → Type 0
LeavesUnwritten (Stopped stop) = stop ≡ Memory
LeavesUnwritten (FullAt number) = ⊥
LeavesUnwritten Full = Unit {0}

-- the count of the sink's faults after both runs, and that of its refused memory
abbrev pub faults_equal : {T : Type 0} → ℕ → Result T EqualFault → ℕ
faults_equal faults (Ok _) = faults
faults_equal faults (Err (Stopped stop)) = written_at faults stop
faults_equal faults (Err (FullAt number)) = faults
faults_equal faults (Err Full) = faults

abbrev pub RefusedEqual : {T : Type 0} → ℕ → ℕ → Result T EqualFault → Type 0
RefusedEqual before now (Ok _) = now ≡ before
RefusedEqual before now (Err (Stopped stop)) = IsRefusedAt before now stop
RefusedEqual before now (Err (FullAt number)) = now ≡ before
RefusedEqual before now (Err Full) = now ≡ before

-- ---- one run

-- two circuits start with as many waveform lines, and with clocks of as many places
pub record StartAlike (one other : SessionData) : Type 0 where
  pub count : other.count ≡ one.count
  pub places : places_of other.clocks ≡ places_of one.clocks

-- the lines before the one that is refused by its names
abbrev pub lines_obeyed : Option ℕ → List (ℕ × List ℕ) → List (ℕ × List ℕ)
lines_obeyed cut lines = before_stop (stop_of true cut lines) lines

-- no line is refused, and notes over this maker show in each column what the run shows there
pub record NotesRun (cut : Option ℕ) (start : SessionData) (lines : List (ℕ × List ℕ)) (symbols : Symbols) (notes : NotesData) (asked known : List GroupTextData) :
    Type 0 where
  pub texts : List GroupTextData
  pub runs : RunsIn cut start lines None texts
  pub by_names : stop_of true cut lines ≡ None
  pub analysed : known ≡ asked ++ texts
  pub valued : AreValuationsOf symbols (valuations_of (read_of true cut lines))
  pub whole : AreNotes symbols notes
  pub names : names_of notes.words ≡ all_watched true lines
  pub shows : ShowsIn cut start lines (shown_in symbols notes)

-- a line is refused: the run to it, and the texts that were analysed for it
pub record IsRunTo (cut : Option ℕ) (start : SessionData) (lines : List (ℕ × List ℕ)) (last : Option RefusedLine) (texts : List GroupTextData) : Type 0 where
  pub runs : RunsIn cut start lines last texts
  pub ended : IsEnded last (stop_of true cut lines)

-- its line was written behind the words that tell of the circuit, or a part of that was
pub record IsRefusedRun (net : List ℕ) (cut : Option ℕ) (start : SessionData) (lines : List (ℕ × List ℕ)) (old new : Option (List ℕ))
    (asked known : List GroupTextData) : Type 0 where
  pub last : Option RefusedLine
  pub texts : List GroupTextData
  pub run : IsRunTo cut start lines last texts
  pub analysed : known ≡ asked ++ texts
  pub grew : new ≡ append_known old (net ++ end_text last (stop_of true cut lines))

pub record IsRefusedPart (net : List ℕ) (cut : Option ℕ) (start : SessionData) (lines : List (ℕ × List ℕ)) (old new : Option (List ℕ)) : Type 0 where
  pub last : Option RefusedLine
  pub texts : List GroupTextData
  pub run : IsRunTo cut start lines last texts
  pub part : WritesPart old new (net ++ end_text last (stop_of true cut lines))

-- there was no vertex more at one of the lines, and nothing was written
pub record StopsUnwritten (cut : Option ℕ) (lines : List (ℕ × List ℕ)) (number : ℕ) (old new : Option (List ℕ)) : Type 0 where
  pub unwritten : new ≡ old
  pub among : StopsAmong (lines_obeyed cut lines) (session.Full number)

-- what a run comes to
abbrev pub RunsAs : List ℕ → Option ℕ → SessionData → List (ℕ × List ℕ) → Symbols → NotesData → NotesData → Option (List ℕ) → Option (List ℕ) →
    List GroupTextData → List GroupTextData → Result Ran EqualFault → Type 0
RunsAs net cut start lines symbols kept later old new asked known (Ok (Noted maker notes)) =
    NotesRun cut start lines maker notes asked known × StillShow symbols maker kept later × (new ≡ old)
RunsAs net cut start lines symbols kept later old new asked known (Ok (Refused ending)) =
    IsRefusedRun net cut start lines old new asked known × (ending ≡ ended.ScriptRefused)
RunsAs net cut start lines symbols kept later old new asked known (Err (Stopped stop)) = (new ≡ old) ⊎ IsRefusedPart net cut start lines old new
RunsAs net cut start lines symbols kept later old new asked known (Err (FullAt number)) = StopsUnwritten cut lines number old new
RunsAs net cut start lines symbols kept later old new asked known (Err Full) = new ≡ old

-- the words that tell of a circuit
abbrev pub first_net : List ℕ
first_net = codes "first net: "

abbrev pub second_net : List ℕ
second_net = codes "second net: "

-- ---- the comparison

-- how both runs end whose comparison ends so
abbrev pub compared_as : Result end.End CompareFault → Result end.End EqualFault
compared_as (Ok ending) = Ok ending
compared_as (Err why) = Err (fault_of_comparing why)

-- what a comparison comes to; if it stopped, nothing may have been written, and in no case it stops at a line
abbrev pub ComparesAs : Valuations → List (List ℕ) → (ℕ → List Shown) → (ℕ → List Shown) → Option (List ℕ) → Option (List ℕ) → Result end.End EqualFault → Type 0
ComparesAs v variables one other old new (Ok ending) = TellsAll v variables one other old new ending
ComparesAs v variables one other old new (Err (Stopped stop)) = (new ≡ old) ⊎ TellsSome v variables one other old new
ComparesAs v variables one other old new (Err (FullAt number)) = ⊥
ComparesAs v variables one other old new (Err Full) = TellsSome v variables one other old new

-- ---- the answer

-- a right answer was written whole, and its texts were analysed. If the run stopped, nothing or a part of a right one was written. If vertices ran out
-- at a line it is one that would have been obeyed, and nothing was written
abbrev pub IsEqualBy : Option ℕ → SessionData → SessionData → List (ℕ × List ℕ) → Option (List ℕ) → Option (List ℕ) → List GroupTextData → List GroupTextData →
    Result end.End EqualFault → Type 0
IsEqualBy cut one other lines old new asked known (Ok ending) =
    IsWritten (IsAnalysed (IsEqualAnswer cut one other lines) asked known) old new (status_of ending)
IsEqualBy cut one other lines old new asked known (Err (Stopped stop)) = IsStopped (IsEqualAnswer cut one other lines) old new
IsEqualBy cut one other lines old new asked known (Err (FullAt number)) = StopsUnwritten cut lines number old new
IsEqualBy cut one other lines old new asked known (Err Full) = IsStopped (IsEqualAnswer cut one other lines) old new
