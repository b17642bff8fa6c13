-- Inside the program: what a run of the script under a fault comes to, in a session that goes on from run to run.
use Rattle.std.specs.Prelude.{◌≡◌, ℕ, false, List, [], ◌∷◌, ◌++◌, map, Option, Some, None}
use Rattle.netlist.specs.Circuits.{CircuitData, called}
use Rattle.group_text.specs.Texts.{GroupTextData}
use Rattle.circuit_texts.specs.declared.texts.BuildFault.{BuildFault}
use Rattle.circuit_texts.specs.Sizes.{TellsRefused}
use Rattle.script_lang.specs.declared.command.Command.{Command}
use Rattle.session_meaning.specs.Sessions.{SessionData, HeldSession}
use Rattle.session_meaning.specs.Refusals.{refusal_of}
use Rattle.session_meaning.specs.Preparing.{builds}
use Rattle.told_lines.specs.Lines.{Line}
use Rattle.told_lines.specs.Noting.{WaveRowData, states_of}
use Rattle.session_meaning.specs.Effects.{Effect}
use Rattle.session_meaning.specs.Outcomes.{Does}
use Rattle.script_meaning.specs.declared.halt.Halt.{Halt}
use Rattle.script_meaning.specs.declared.halt.Halt.TheVariants.{End, Refused, TooLarge}
use Rattle.run_ends.specs.Causes.{Cause, plain_cause, size_cause}
use Rattle.run_ends.specs.Answers.{Answer}
use Rattle.script_meaning.specs.Runs.{RefusedLine, Outcome}
use Rattle.run_ends.specs.declared.status.Status.TheVariants as status
use Rattle.fault_sim.specs.declared.fault.Fault.{Fault}
use Rattle.fault_sim.specs.Traces.{Trace}
use Rattle.fault_meaning.specs.declared.listed.ListedFault.{ListedFault}
use Rattle.fault_meaning.specs.Traces.{RunsUnder, Shows, IsTrace, start_with}
use Rattle.fault_meaning.specs.Judging.{LineVerdict, AreJudged, verdict_lines, counts_line}

-- a bench: the circuit at the start, the script, and the texts that are kept
pub record BenchData : Type 0 where
  pub start : CircuitData
  pub script : List ℕ
  pub kept : List GroupTextData

-- what a session keeps, if there is one
abbrev pub kept_in : {M : Type 0} → Option (HeldSession M) → List GroupTextData
kept_in None = []
kept_in (Some session) = session.core.kept

-- the data stand at the start in a circuit, with what is kept
abbrev pub StandsAtStart : CircuitData → SessionData → Type 0
StandsAtStart circuit session = session ≡ start_with circuit session.kept

-- a bench ran the script under a fault or without one: the trace is that of such a run, and its texts were analysed
pub record HasTraced (old : BenchData) (asked : List GroupTextData) (fault : Option Fault) (trace : Trace) (new : BenchData)
    (told : List GroupTextData) : Type 0 where
  pub start : new.start ≡ old.start
  pub script : new.script ≡ old.script
  pub texts : List GroupTextData
  pub is : IsTrace old.start old.script old.kept fault trace texts new.kept
  pub analysed : told ≡ asked ++ texts

-- the script has run under a fault or without one, to these data and to this refused line, if one ended it: this is its trace, and its
-- texts were analysed
pub record HasRun (circuit : CircuitData) (script : List ℕ) (kept : List GroupTextData) (fault : Option Fault) (new : SessionData)
    (asked told : List GroupTextData) (trace : Trace) (last : Option RefusedLine) : Type 0 where
  pub outcome : Outcome
  pub runs : RunsUnder circuit script kept fault outcome
  pub reached : outcome.end ≡ new
  pub stopped : outcome.refused ≡ last
  pub shows : Shows outcome trace
  pub analysed : told ≡ asked ++ outcome.texts

-- it has run to the line with this number, which is refused since a group of the circuit is too large, the first of which is told
pub record HasOutgrown (circuit : CircuitData) (script : List ℕ) (kept : List GroupTextData) (fault : Option Fault) (new : SessionData)
    (asked told : List GroupTextData) (trace : Trace) (number : ℕ) (size : BuildFault) : Type 0 where
  pub first : TellsRefused new.large new.circuit.graph size
  pub halted : (other : BuildFault) (cause : Cause) → TellsRefused new.large new.circuit.graph other → size_cause new.circuit other ≡ Some cause →
      HasRun circuit script kept fault new asked told trace (Some (record { line = number; cause = cause }))

-- how the run ended
abbrev pub RunsTo : CircuitData → List ℕ → List GroupTextData → Option Fault → SessionData → List GroupTextData → List GroupTextData → Trace → Halt → Type 0
RunsTo circuit script kept fault new asked told trace End = HasRun circuit script kept fault new asked told trace None
RunsTo circuit script kept fault new asked told trace (Refused number code) =
    HasRun circuit script kept fault new asked told trace (Some (record { line = number; cause = plain_cause code }))
RunsTo circuit script kept fault new asked told trace (TooLarge number size) =
    HasOutgrown circuit script kept fault new asked told trace number size

-- the trace of a run, with the texts that were analysed for it
pub record IsTraced (circuit : CircuitData) (script : List ℕ) (kept : List GroupTextData) (fault : Option Fault) (new : SessionData)
    (asked told : List GroupTextData) (trace : Trace) : Type 0 where
  pub texts : List GroupTextData
  pub is : IsTrace circuit script kept fault trace texts new.kept
  pub analysed : told ≡ asked ++ texts

-- the command builds nothing and tells nothing
pub record IsQuiet (command : Command) : Type 0 where
  pub still : builds command ≡ false
  pub silent : (old new : SessionData) (lines : List Line) → Effect old command new lines → lines ≡ []

-- none of these commands is refused, where each stands after the effects of those before it
abbrev pub AreAllowed : SessionData → List Command → Type 0
AreAllowed old [] = Unit {0}
AreAllowed old (command ∷ commands) =
    (refusal_of old command ≡ None) × ((mid : SessionData) → Does old command mid [] → AreAllowed mid commands)

-- the line at which a run ended, if one is refused
abbrev pub line_of : Halt → Option ℕ
line_of End = None
line_of (Refused number code) = Some number
line_of (TooLarge number size) = Some number

-- the trace of a run that ended so with these data, and whose waveform lines had these rows
pub record TellsTrace (end : SessionData) (halt : Halt) (noted : List WaveRowData) (trace : Trace) : Type 0 where
  pub rows : trace.rows ≡ states_of noted
  pub names : trace.names ≡ map (called end.circuit) end.watched
  pub refused : trace.refused ≡ line_of halt

-- the faults of a list are judged beside the good trace: the answer is the line of each verdict and then that of the counts
pub record TellsJudged (circuit : CircuitData) (script : List ℕ) (good : Trace) (kept : List GroupTextData) (faults : List ListedFault)
    (answer : Answer) : Type 0 where
  pub judged : List LineVerdict
  pub texts : List GroupTextData
  pub are : AreJudged circuit script good kept faults judged texts
  pub told : answer ≡ record { status = status.Done; text = verdict_lines good judged ++ counts_line judged; texts = texts }
