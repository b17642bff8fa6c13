-- What one line of a symbolic script comes to in all columns, with what was heard and which texts of groups were analysed.
use Rattle.std.specs.Prelude.{◌≡◌, ℕ, ◌<◌, Bool, List, ◌∷◌, ◌++◌, Option, Some, Result, Ok, Err}
use Rattle.group_text.specs.Texts.{GroupTextData}
use Rattle.circuit_texts.specs.declared.texts.BuildFault.{BuildFault}
use Rattle.circuit_texts.specs.Sizes.{TellsRefused}
use Rattle.told_lines.specs.Hearing.{hear_all, HearsFront}
use Rattle.run_ends.specs.Causes.{Cause, plain_cause, size_cause}
use Rattle.run_ends.specs.Stops.{written_at, IsRefusedAt}
use Rattle.session_meaning.specs.Sessions.{SessionData}
use Rattle.script_meaning.specs.declared.turn.Turn.{Turn}
use Rattle.script_meaning.specs.declared.turn.Turn.TheVariants.{Accepted, Refused, TooLarge}
use Rattle.script_meaning.specs.Runs.{RefusedLine}
use Rattle.symbol_meaning.specs.Readings.{Valuations}
use Rattle.symbol_meaning.specs.Told.{SymbolTold}
use Rattle.symbol_meaning.specs.Runs.{AreRefused, IsObeyedInAll, RunsInAll}
use Rattle.symbol_told.specs.Lines.{Telling}
use Rattle.symbol_told.specs.Printing.{lines_told}
use Rattle.symbol_run.specs.declared.session.SymbolFault.{SymbolFault}
use Rattle.symbol_run.specs.declared.session.SymbolFault.TheVariants.{Stopped, Full}

-- the line is obeyed in each column; what it tells was heard, and its texts were analysed
pub record ObeysHeard {H : Type 0} (hear : H → Telling → H) (quiet : Bool) (v : Valuations) (cut : Option ℕ) (old : ℕ → SessionData) (line : ℕ × List ℕ)
    (new : ℕ → SessionData) (before after : H) (asked known : List GroupTextData) : Type 0 where
  pub told : List Telling
  pub texts : List GroupTextData
  pub obeyed : IsObeyedInAll quiet v cut old line new (lines_told told) texts
  pub heard : after ≡ hear_all hear before told
  pub analysed : known ≡ asked ++ texts

-- all is as before, and nothing was heard
pub record StaysUnheard {H : Type 0} (v : Valuations) (old new : ℕ → SessionData) (before after : H) (asked known : List GroupTextData) : Type 0 where
  pub same : (column : ℕ) → column < v.columns → new column ≡ old column
  pub unheard : after ≡ before
  pub unasked : known ≡ asked

-- it is refused in each column, since a group of the circuit is too large, the first of which is told
pub record OutgrowsInAll (quiet : Bool) (v : Valuations) (cut : Option ℕ) (old : ℕ → SessionData) (line : ℕ × List ℕ) (fault : BuildFault) : Type 0 where
  pub cause : Cause
  pub named : (column : ℕ) → column < v.columns → size_cause (old column).circuit fault ≡ Some cause
  pub first : (column : ℕ) → column < v.columns → TellsRefused (old column).large (old column).circuit.graph fault
  pub refused : AreRefused quiet v cut old line cause

-- some run of lines tells this first, and then something
pub record RunsWith (quiet : Bool) (v : Valuations) (cut : Option ℕ) (old : ℕ → SessionData) (lines : List (ℕ × List ℕ)) (told : List SymbolTold) : Type 0 where
  pub new : ℕ → SessionData
  pub more : List SymbolTold
  pub texts : List GroupTextData
  pub last : Option RefusedLine
  pub runs : RunsInAll quiet v cut old lines new (told ++ more) texts last

-- the line was broken off: a front of what some run of it and the lines behind it tells first was heard
pub record BreaksLine {H : Type 0} (hear : H → Telling → H) (part : H → Telling → H → Type 0) (quiet : Bool) (v : Valuations) (cut : Option ℕ)
    (old : ℕ → SessionData) (lines : List (ℕ × List ℕ)) (before after : H) : Type 0 where
  pub told : List Telling
  pub heard : HearsFront hear part before after told
  pub runs : RunsWith quiet v cut old lines (lines_told told)

-- what one line comes to, where these lines are behind it
abbrev pub TakesTurnInAll : {H : Type 0} → (H → Telling → H) → (H → Telling → H → Type 0) → Bool → Valuations → Option ℕ → (ℕ → SessionData) → ℕ × List ℕ →
    List (ℕ × List ℕ) → (ℕ → SessionData) → H → H → List GroupTextData → List GroupTextData → Result Turn SymbolFault → Type 0
TakesTurnInAll hear part quiet v cut old line rest new before after asked known (Ok Accepted) =
    ObeysHeard hear quiet v cut old line new before after asked known
TakesTurnInAll hear part quiet v cut old line rest new before after asked known (Ok (Refused code)) =
    AreRefused quiet v cut old line (plain_cause code) × StaysUnheard v old new before after asked known
TakesTurnInAll hear part quiet v cut old line rest new before after asked known (Ok (TooLarge fault)) =
    OutgrowsInAll quiet v cut old line fault × StaysUnheard v old new before after asked known
TakesTurnInAll hear part quiet v cut old line rest new before after asked known (Err fault) =
    BreaksLine hear part quiet v cut old (line ∷ rest) before after

-- it stops for vertices at its own number
abbrev pub StopsAt : ℕ → SymbolFault → Type 0
StopsAt number (Stopped stop) = Unit {0}
StopsAt number (Full line) = line ≡ number

-- the count of the hearer's faults after a part of a run
abbrev pub faults_stopped : {T : Type 0} → ℕ → Result T SymbolFault → ℕ
faults_stopped faults (Ok _) = faults
faults_stopped faults (Err (Stopped stop)) = written_at faults stop
faults_stopped faults (Err (Full line)) = faults

-- and that of its refused memory
abbrev pub RefusedStopped : {T : Type 0} → ℕ → ℕ → Result T SymbolFault → Type 0
RefusedStopped before now (Ok _) = now ≡ before
RefusedStopped before now (Err (Stopped stop)) = IsRefusedAt before now stop
RefusedStopped before now (Err (Full line)) = now ≡ before
