-- What the commands come to that move states, behind the build: a step, a phase, or phases at the places of clocks, in all columns, with what was heard.
use Rattle.std.specs.Prelude.{◌≡◌, ◌⊎◌, ℕ, ◌<◌, false, List, [], ◌∷◌, ◌++◌, Result, Ok, Err}
use Rattle.group_text.specs.Texts.{GroupTextData}
use Rattle.ports.specs.declared.ports.PortFault.{PortFault}
use Rattle.settling.specs.declared.settling.Settled.{Settled}
use Rattle.script_lang.specs.declared.command.Run.{Run}
use Rattle.script_lang.specs.declared.command.Run.TheVariants.{Step, Phase, Cycle, Report}
use Rattle.run_ends.specs.Stops.{write_stop_of}
use Rattle.truth_makers.specs.declared.symbols.Symbols.{Symbols}
use Rattle.told_lines.specs.Lines.{Line}
use Rattle.told_lines.specs.Hearing.{hear_all, HearsFront}
use Rattle.session_meaning.specs.Sessions.{ClockData, SessionData, places_of}
use Rattle.session_meaning.specs.Effects.{AreBeats, IsPhase, IsUnitStep, places_in, wave_by}
use Rattle.session_meaning.specs.Truths.{BuiltInAll, TooLargeInAll}
use Rattle.script_meaning.specs.declared.turn.Turn.{Turn}
use Rattle.script_meaning.specs.declared.turn.Turn.TheVariants.{Accepted, Refused, TooLarge}
use Rattle.symbol_meaning.specs.Merging.{AreMerged}
use Rattle.symbol_told.specs.Lines.{Telling}
use Rattle.symbol_told.specs.Printing.{lines_told}
use Rattle.symbol_run.specs.declared.session.SymbolFault.{SymbolFault}
use Rattle.symbol_run.specs.declared.session.SymbolFault.TheVariants.{Stopped}
use Rattle.symbol_equiv.specs.Waves.{AreRailed}

-- what leads from data to other data with some lines, as a unit step or a phase does
abbrev pub Move : Type 1
Move = SessionData → SessionData → List Line → Type 0

-- phases at these places of the clocks
abbrev pub beats_at : List ℕ → Move
beats_at places old new lines = AreBeats old places new lines

-- the waveform line of each column behind a step or a phase, by its count
abbrev pub waves_by : (ℕ → SessionData) → (ℕ → Settled) → ℕ → List Line
waves_by sessions count column = wave_by (sessions column) (count column).steps (count column).joined ∷ []

-- what a unit step tells: one step, and no mark
abbrev pub one_step : Settled
one_step = record { steps = 1; joined = false }

-- this is done in each column, and this is told of all together
pub record MovesInAll (columns : ℕ) (Done : Move) (old new : ℕ → SessionData) (told : List Telling) : Type 0 where
  pub lines : ℕ → List Line
  pub each : (column : ℕ) → column < columns → Done (old column) (new column) (lines column)
  pub merged : AreMerged columns lines (lines_told told)

-- it was done, and heard with rails of a maker
pub record MovesHeard {H : Type 0} (symbols : Symbols) (hear : H → Telling → H) (columns : ℕ) (Done : Move) (old new : ℕ → SessionData) (before after : H) :
    Type 0 where
  pub told : List Telling
  pub moves : MovesInAll columns Done old new told
  pub railed : AreRailed symbols columns moves.lines told
  pub heard : after ≡ hear_all hear before told

-- it was broken off: a front of what some of it tells was heard
pub record MovesBegun {H : Type 0} (hear : H → Telling → H) (part : H → Telling → H → Type 0) (columns : ℕ) (Done : Move) (old : ℕ → SessionData)
    (before after : H) : Type 0 where
  pub end : ℕ → SessionData
  pub told : List Telling
  pub moves : MovesInAll columns Done old end told
  pub heard : HearsFront hear part before after told

-- what it comes to
abbrev pub MovesBy : {H T E : Type 0} → Symbols → (H → Telling → H) → (H → Telling → H → Type 0) → ℕ → Move → (ℕ → SessionData) → (ℕ → SessionData) → H → H →
    Result T E → Type 0
MovesBy symbols hear part columns Done old new before after (Ok _) = MovesHeard symbols hear columns Done old new before after
MovesBy symbols hear part columns Done old new before after (Err fault) = (after ≡ before) ⊎ MovesBegun hear part columns Done old before after

-- phases at places of clocks were broken off: those at the first places were done, and a front of what they tell was heard
pub record BeatsBegun {H : Type 0} (hear : H → Telling → H) (part : H → Telling → H → Type 0) (columns : ℕ) (places : List ℕ) (old : ℕ → SessionData)
    (before after : H) : Type 0 where
  pub done : List ℕ
  pub left : List ℕ
  pub split : places ≡ done ++ left
  pub begun : MovesBegun hear part columns (beats_at done) old before after

-- what they come to
abbrev pub BeatsBy : {H T E : Type 0} → Symbols → (H → Telling → H) → (H → Telling → H → Type 0) → ℕ → List ℕ → (ℕ → SessionData) → (ℕ → SessionData) → H → H →
    Result T E → Type 0
BeatsBy symbols hear part columns places old new before after (Ok _) = MovesHeard symbols hear columns (beats_at places) old new before after
BeatsBy symbols hear part columns places old new before after (Err fault) = BeatsBegun hear part columns places old before after

-- and what a command does behind its build, with these clocks
abbrev pub RunsBy : {H T E : Type 0} → Symbols → (H → Telling → H) → (H → Telling → H → Type 0) → ℕ → List ClockData → Run → (ℕ → SessionData) →
    (ℕ → SessionData) → H → H → Result T E → Type 0
RunsBy symbols hear part columns clocks Step old new before after result = MovesBy symbols hear part columns IsUnitStep old new before after result
RunsBy symbols hear part columns clocks Phase old new before after result = MovesBy symbols hear part columns IsPhase old new before after result
RunsBy symbols hear part columns clocks (Cycle times) old new before after result =
    BeatsBy symbols hear part columns (places_in (places_of clocks) times) old new before after result
RunsBy symbols hear part columns clocks Report old new before after result = ⊥

-- what a build comes to
abbrev pub ReadiesBy : {E : Type 0} → ℕ → (ℕ → SessionData) → (ℕ → SessionData) → List GroupTextData → List GroupTextData → Result Turn E → Type 0
ReadiesBy columns old new done known (Ok Accepted) = BuiltInAll columns old new done known
ReadiesBy columns old new done known (Ok (Refused code)) = ⊥
ReadiesBy columns old new done known (Ok (TooLarge fault)) = TooLargeInAll columns old new done known fault
ReadiesBy columns old new done known (Err fault) = Unit {0}

-- what telling a line ends with
abbrev pub heard_by : Result (Unit {0}) PortFault → Result (Unit {0}) SymbolFault
heard_by (Ok done) = Ok done
heard_by (Err fault) = Err (Stopped (write_stop_of fault))
