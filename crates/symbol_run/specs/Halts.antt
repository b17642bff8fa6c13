-- Where the lines of a symbolic script end when they are obeyed in all columns, with what was heard and which texts of groups were analysed.
use Rattle.std.specs.Prelude.{◌≡◌, ℕ, ◌<◌, Bool, false, List, ◌∷◌, ◌++◌, nat_le, Option, None, Some, Result, Ok, Err}
use Rattle.group_text.specs.Texts.{GroupTextData}
use Rattle.circuit_texts.specs.declared.texts.BuildFault.{BuildFault}
use Rattle.circuit_texts.specs.Sizes.{TellsRefused}
use Rattle.told_lines.specs.Hearing.{hear_all}
use Rattle.run_ends.specs.Causes.{Cause, plain_cause, size_cause}
use Rattle.session_meaning.specs.Sessions.{SessionData}
use Rattle.script_meaning.specs.declared.halt.Halt.{Halt}
use Rattle.script_meaning.specs.declared.halt.Halt.TheVariants.{End, Refused, TooLarge}
use Rattle.script_meaning.specs.Runs.{RefusedLine}
use Rattle.symbol_meaning.specs.Readings.{Valuations}
use Rattle.symbol_meaning.specs.Scripts.{NamedStop}
use Rattle.symbol_meaning.specs.Runs.{RunsInAll}
use Rattle.symbol_told.specs.Lines.{Telling}
use Rattle.symbol_told.specs.Printing.{lines_told}
use Rattle.symbol_run.specs.declared.session.SymbolFault.{SymbolFault}
use Rattle.symbol_run.specs.declared.session.SymbolFault.TheVariants.{Full, Stopped}
use Rattle.symbol_run.specs.Turns.{BreaksLine}

-- the lines ran in all columns, to this refused line, if one ended them: what they tell was heard, and their texts were analysed
pub record HasRunInAll {H : Type 0} (hear : H → Telling → H) (quiet : Bool) (v : Valuations) (cut : Option ℕ) (start : ℕ → SessionData)
    (lines : List (ℕ × List ℕ)) (new : ℕ → SessionData) (before after : H) (asked known : List GroupTextData) (last : Option RefusedLine) : Type 0 where
  pub end : ℕ → SessionData
  pub told : List Telling
  pub texts : List GroupTextData
  pub runs : RunsInAll quiet v cut start lines end (lines_told told) texts last
  pub reached : (column : ℕ) → column < v.columns → end column ≡ new column
  pub heard : after ≡ hear_all hear before told
  pub analysed : known ≡ asked ++ texts

-- they ran to the line with this number, which is refused since a group of the circuit is too large, the first of which is told
pub record HasOutgrownInAll {H : Type 0} (hear : H → Telling → H) (quiet : Bool) (v : Valuations) (cut : Option ℕ) (start : ℕ → SessionData)
    (lines : List (ℕ × List ℕ)) (new : ℕ → SessionData) (before after : H) (asked known : List GroupTextData) (number : ℕ) (fault : BuildFault) : Type 0 where
  pub cause : Cause
  pub named : (column : ℕ) → column < v.columns → size_cause (new column).circuit fault ≡ Some cause
  pub first : (column : ℕ) → column < v.columns → TellsRefused (new column).large (new column).circuit.graph fault
  pub run : HasRunInAll hear quiet v cut start lines new before after asked known (Some (record { line = number; cause = cause }))

-- how the lines end
abbrev pub HaltsInAll : {H : Type 0} → (H → Telling → H) → Bool → Valuations → Option ℕ → (ℕ → SessionData) → List (ℕ × List ℕ) → (ℕ → SessionData) → H → H →
    List GroupTextData → List GroupTextData → Halt → Type 0
HaltsInAll hear quiet v cut start lines new before after asked known End = HasRunInAll hear quiet v cut start lines new before after asked known None
HaltsInAll hear quiet v cut start lines new before after asked known (Refused number code) =
    HasRunInAll hear quiet v cut start lines new before after asked known (Some (record { line = number; cause = plain_cause code }))
HaltsInAll hear quiet v cut start lines new before after asked known (TooLarge number fault) =
    HasOutgrownInAll hear quiet v cut start lines new before after asked known number fault

-- what obeying the lines comes to; at a fault a front of what some right run of them tells was heard
abbrev pub TellsInAll : {H : Type 0} → (H → Telling → H) → (H → Telling → H → Type 0) → Bool → Valuations → Option ℕ → (ℕ → SessionData) → List (ℕ × List ℕ) →
    (ℕ → SessionData) → H → H → List GroupTextData → List GroupTextData → Result Halt SymbolFault → Type 0
TellsInAll hear part quiet v cut start lines new before after asked known (Ok halt) =
    HaltsInAll hear quiet v cut start lines new before after asked known halt
TellsInAll hear part quiet v cut start lines new before after asked known (Err fault) = BreaksLine hear part quiet v cut start lines before after

-- if vertices ran out it was at one of these lines
abbrev pub StopsAmong : List (ℕ × List ℕ) → SymbolFault → Type 0
StopsAmong lines (Stopped stop) = Unit {0}
StopsAmong lines (Full number) =
    (text : List ℕ) × (earlier : List (ℕ × List ℕ)) × (later : List (ℕ × List ℕ)) × (lines ≡ earlier ++ (number, text) ∷ later)

-- the line with this number doesn't stand before one that is refused by its names
abbrev pub is_past : Option NamedStop → ℕ → Bool
is_past None number = false
is_past (Some stop) number = nat_le stop.0 number
