-- What becomes of what a line asks for, with what was heard and which texts of groups were analysed.
use Rattle.std.specs.Prelude.{◌≡◌, ◌<◌, ℕ, List, [], ◌++◌, Option, Some, None, Result, Ok, Err}
use Rattle.group_text.specs.Texts.{GroupTextData}
use Rattle.decision_graph.specs.declared.graph.GraphFault.{GraphFault}
use Rattle.decision_graph.specs.declared.graph.GraphFault.TheVariants as graph
use Rattle.printed_lines.specs.declared.faults.FaultCode.{FaultCode}
use Rattle.truth_makers.specs.declared.symbols.Symbols.{Symbols}
use Rattle.truth_makers.specs.Makers.{columns_in}
use Rattle.told_lines.specs.Hearing.{hear_all, HearsFront}
use Rattle.run_ends.specs.declared.stop.Stop.TheVariants.{Memory, Write}
use Rattle.circuit_texts.specs.declared.texts.BuildFault.TheVariants as build
use Rattle.session_meaning.specs.declared.fault.ApplyFault.{ApplyFault}
use Rattle.session_meaning.specs.declared.fault.ApplyFault.TheVariants as apply
use Rattle.run_ends.specs.Stops.{write_stop_of}
use Rattle.session_meaning.specs.Sessions.{HeldSession, SessionData, places_of}
use Rattle.session_meaning.specs.Preparing.{IsBuild}
use Rattle.session_meaning.specs.Refusals.{refusal_of}
use Rattle.session_meaning.specs.Effects.{places_in}
use Rattle.script_meaning.specs.declared.turn.Turn.{Turn}
use Rattle.script_meaning.specs.declared.turn.Turn.TheVariants.{Accepted, Refused, TooLarge}
use Rattle.script_meaning.specs.Codes.{refusal_code}
use Rattle.symbol_script.specs.declared.line.SymbolLine.{SymbolLine}
use Rattle.symbol_script.specs.declared.line.SymbolLine.TheVariants as asks
use Rattle.symbol_meaning.specs.Readings.{Valuations}
use Rattle.symbol_meaning.specs.Scripts.{definition_in}
use Rattle.symbol_told.specs.Lines.{Telling}
use Rattle.symbol_told.specs.Printing.{lines_told}
use Rattle.symbol_run.specs.declared.session.SymbolFault.{SymbolFault}
use Rattle.symbol_run.specs.declared.session.SymbolFault.TheVariants.{Full, Stopped}
use Rattle.symbol_run.specs.Serving.{names_after, truths_after}
use Rattle.symbol_run.specs.Turns.{StaysUnheard}
use Rattle.symbol_giving.specs.declared.fault.GivingFault.{GivingFault}
use Rattle.symbol_giving.specs.declared.fault.GivingFault.TheVariants as giving
use Rattle.symbol_expecting.specs.declared.fault.ExpectFault.{ExpectFault}
use Rattle.symbol_expecting.specs.declared.fault.ExpectFault.TheVariants as expecting
use Rattle.script_lang.specs.declared.command.Command.TheVariants as family
use Rattle.script_lang.specs.declared.command.Run.TheVariants.{Cycle}
use Rattle.script_lang.specs.declared.command.Tell.{Tell}
use Rattle.script_lang.specs.declared.command.Tell.TheVariants.{Expect, Show, Look}
use Rattle.symbol_stage.specs.Stages.{StageData}
use Rattle.symbol_meaning.specs.Told.{SymbolTold}
use Rattle.symbol_looking.specs.Names.{all_looked, all_shown}
use Rattle.symbol_equiv.specs.Waves.{AreRailed}
use Rattle.symbol_session.specs.Sessions.{SymbolData, maker_of, truths_by}
use Rattle.symbol_session.specs.Moves.{BeatsBegun}
use Rattle.symbol_session.specs.Asked.{AreOutgrownBy, AreRefusedFor, IsDoneInAll}

-- what is asked for is done in all columns; what it tells was heard, with the rails of the nodes of waveform lines, and its texts were analysed
pub record DoesHeard {H : Type 0} (symbols : Symbols) (hear : H → Telling → H) (v : Valuations) (old : ℕ → SessionData) (asked : SymbolLine)
    (new : ℕ → SessionData) (before after : H) (done known : List GroupTextData) : Type 0 where
  pub told : List Telling
  pub texts : List GroupTextData
  pub does : IsDoneInAll v old asked new (lines_told told) texts
  pub railed : AreRailed symbols v.columns does.lines told
  pub heard : after ≡ hear_all hear before told
  pub analysed : known ≡ done ++ texts

-- it was broken off: of what some outcome of it tells a front was heard
pub record IsBegun {H : Type 0} (hear : H → Telling → H) (part : H → Telling → H → Type 0) (v : Valuations) (old : ℕ → SessionData) (asked : SymbolLine)
    (before after : H) : Type 0 where
  pub end : ℕ → SessionData
  pub told : List Telling
  pub texts : List GroupTextData
  pub does : IsDoneInAll v old asked end (lines_told told) texts
  pub heard : HearsFront hear part before after told

-- it is a `cycle` that was broken off: the circuit was built, and phases at the first places were done; of what these tell a front was heard
pub record IsCycling {H : Type 0} (hear : H → Telling → H) (part : H → Telling → H → Type 0) (v : Valuations) (old : ℕ → SessionData) (asked : SymbolLine)
    (before after : H) : Type 0 where
  pub times : ℕ
  pub asks_for : asked ≡ asks.Plain (family.Run (Cycle times))
  pub allowed : refusal_of (old 0) (family.Run (Cycle times)) ≡ None
  pub texts : List GroupTextData
  pub mid : ℕ → SessionData
  pub built : (column : ℕ) → column < v.columns → IsBuild (old column) (mid column) texts
  pub begun : BeatsBegun hear part v.columns (places_in (places_of (old 0).clocks) times) mid before after

-- a fault came before anything was heard, or in the midst
pub data BreaksAsked {H : Type 0} (hear : H → Telling → H) (part : H → Telling → H → Type 0) (v : Valuations) (old : ℕ → SessionData) (asked : SymbolLine)
    (before after : H) : Type 0 where
  unheard : after ≡ before → BreaksAsked hear part v old asked before after
  begun : IsBegun hear part v old asked before after → BreaksAsked hear part v old asked before after
  cycling : IsCycling hear part v old asked before after → BreaksAsked hear part v old asked before after

-- what becomes of it
abbrev pub TakesAsked : {H : Type 0} → Symbols → (H → Telling → H) → (H → Telling → H → Type 0) → Valuations → (ℕ → SessionData) → SymbolLine →
    (ℕ → SessionData) → H → H → List GroupTextData → List GroupTextData → Result Turn SymbolFault → Type 0
TakesAsked symbols hear part v old asked new before after done known (Ok Accepted) = DoesHeard symbols hear v old asked new before after done known
TakesAsked symbols hear part v old asked new before after done known (Ok (Refused code)) =
    AreRefusedFor v old asked code × StaysUnheard v old new before after done known
TakesAsked symbols hear part v old asked new before after done known (Ok (TooLarge fault)) =
    AreOutgrownBy v old asked fault × StaysUnheard v old new before after done known
TakesAsked symbols hear part v old asked new before after done known (Err fault) = BreaksAsked hear part v old asked before after

-- ---- answers

-- lack of memory
abbrev pub want : SymbolFault
want = Stopped Memory

-- a fault of the graph, at the line with this number
abbrev pub fault_at : ℕ → GraphFault → SymbolFault
fault_at number graph.Full = Full number
fault_at number graph.NoMemory = want

-- it isn't the hearer's: memory ran out, or vertices at the line with this number
abbrev pub IsOwnFault : ℕ → SymbolFault → Type 0
IsOwnFault number (Stopped stop) = stop ≡ Memory
IsOwnFault number (Full line) = line ≡ number

-- what becomes of a line by what its command answers
abbrev pub turn_of : Result (Unit {0}) ApplyFault → Result Turn SymbolFault
turn_of (Ok _) = Ok Accepted
turn_of (Err (apply.Refused refusal)) = Ok (Refused (refusal_code refusal))
turn_of (Err (apply.GroupNodes node count)) = Ok (TooLarge (build.GroupNodes node count))
turn_of (Err (apply.GroupSwitches node count)) = Ok (TooLarge (build.GroupSwitches node count))
turn_of (Err apply.WriteFault) = Err (Stopped Write)
turn_of (Err apply.NoMemory) = Err want

-- by what it did behind its build
abbrev pub turn_moved : {T : Type 0} → Result T SymbolFault → Result Turn SymbolFault
turn_moved (Ok moved) = Ok Accepted
turn_moved (Err fault) = Err fault

-- and of one that is no command, by the code of its fault, which lack of memory doesn't have
abbrev pub turn_unread : Option FaultCode → Result Turn SymbolFault
turn_unread (Some code) = Ok (Refused code)
turn_unread None = Err want

-- and of one that gives nodes letters, or expects them
abbrev pub turn_given : ℕ → Result (Unit {0}) GivingFault → Result Turn SymbolFault
turn_given number (Ok _) = Ok Accepted
turn_given number (Err (giving.Refused refusal)) = Ok (Refused (refusal_code refusal))
turn_given number (Err giving.Full) = Err (Full number)
turn_given number (Err giving.NoMemory) = Err want

abbrev pub turn_expected : ℕ → ExpectFault → Result Turn SymbolFault
turn_expected number (expecting.Refused refusal) = Ok (Refused (refusal_code refusal))
turn_expected number expecting.Full = Err (Full number)
turn_expected number expecting.NoMemory = Err want
turn_expected number (expecting.Unheard fault) = Err (Stopped (write_stop_of fault))

-- ---- names

-- the table has behind the line the definition that it makes, if it makes one, and no other
pub record HasNext (old new : SymbolData) (asked : SymbolLine) : Type 0 where
  pub names : new.names.names ≡ names_after (definition_in (Some asked)) old.names.names
  pub truths : (column : ℕ) → column < columns_in (maker_of old) →
      truths_by new column ≡ truths_after (definition_in (Some asked)) old.names.names (truths_by old column)

-- ---- what tells of what is there

-- the lines of a session, of all columns together; an `expect` isn't among these
abbrev pub told_of : HeldSession StageData → Tell → List SymbolTold
told_of session (Expect list) = []
told_of session (Show names) = all_shown session names
told_of session (Look names) = all_looked session names
