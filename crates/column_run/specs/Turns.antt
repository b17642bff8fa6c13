-- What running lines of a script in columns comes to: one line, and all to the end or to the first that is refused; with what was heard of their
-- rows, and which texts of groups were analysed.
use Rattle.std.specs.Prelude.{◌≡◌, ℕ, ◌<◌, ◌⊎◌, List, ◌++◌, Option, None, Some, Result, Ok, Err}
use Rattle.group_text.specs.Texts.{GroupTextData}
use Rattle.circuit_texts.specs.declared.texts.BuildFault.{BuildFault}
use Rattle.circuit_texts.specs.Sizes.{TellsRefused}
use Rattle.column_script.specs.declared.command.ColumnCommand.{ColumnCommand}
use Rattle.column_script.specs.Commands.{in_column}
use Rattle.column_script.specs.Forms.{IsFormed}
use Rattle.told_lines.specs.Lines.{Told}
use Rattle.told_lines.specs.Hearing.{hear_all, HearsFront}
use Rattle.session_meaning.specs.Columns.{AcceptsInAll, BeginsInAll}
use Rattle.session_meaning.specs.Outcomes.{RefusesSize}
use Rattle.session_meaning.specs.Sessions.{SessionData}
use Rattle.script_meaning.specs.declared.halt.Halt.{Halt}
use Rattle.script_meaning.specs.declared.halt.Halt.TheVariants as halt
use Rattle.run_ends.specs.declared.stop.Stop.{Stop}
use Rattle.script_meaning.specs.declared.turn.Turn.{Turn}
use Rattle.script_meaning.specs.declared.turn.Turn.TheVariants.{Accepted, Refused, TooLarge}
use Rattle.run_ends.specs.Causes.{plain_cause, size_cause, Cause}
use Rattle.script_meaning.specs.Runs.{IsIdle, Asks, IsRefused, RefusedLine}
use Rattle.column_run.specs.ColumnAnswers.{reading_in, RunsInAll}

-- in each column the line asks for nothing
abbrev pub AreIdle : ℕ → Option ℕ → (ℕ → SessionData) → ℕ × List ℕ → Type 0
AreIdle columns cut sessions line = (column : ℕ) → column < columns → IsIdle (reading_in columns column) cut (sessions column) line

-- in each column the line asks for what the column is given of this command
pub record AskInAll (columns : ℕ) (cut : Option ℕ) (sessions : ℕ → SessionData) (line : ℕ × List ℕ) (command : ColumnCommand) : Type 0 where
  pub formed : IsFormed columns command
  pub each : (column : ℕ) → column < columns → Asks (reading_in columns column) cut (sessions column) line (in_column column command)

-- in each column the line is refused for this cause
abbrev pub AreRefused : ℕ → Option ℕ → (ℕ → SessionData) → ℕ × List ℕ → Cause → Type 0
AreRefused columns cut sessions line cause = (column : ℕ) → column < columns → IsRefused (reading_in columns column) cut (sessions column) line cause

-- each column is as before, nothing was heard, and nothing was analysed
pub record KeepInAll {H : Type 0} (columns : ℕ) (old new : ℕ → SessionData) (before after : H) (asked known : List GroupTextData) : Type 0 where
  pub same : (column : ℕ) → column < columns → new column ≡ old column
  pub unheard : after ≡ before
  pub unasked : known ≡ asked

-- the line asks for nothing, and nothing changes
pub record Passes {H : Type 0} (columns : ℕ) (cut : Option ℕ) (line : ℕ × List ℕ) (old new : ℕ → SessionData) (before after : H)
    (asked known : List GroupTextData) : Type 0 where
  pub idle : AreIdle columns cut old line
  pub keeps : KeepInAll columns old new before after asked known

-- the line's command was accepted
pub record Follows {H : Type 0} (hear : H → Told → H) (columns : ℕ) (cut : Option ℕ) (line : ℕ × List ℕ)
    (old new : ℕ → SessionData) (before after : H)
    (asked known : List GroupTextData) : Type 0 where
  pub command : ColumnCommand
  pub asks : AskInAll columns cut old line command
  pub accepts : AcceptsInAll hear columns old command new before after asked known

-- the circuit can't be built for the line's command: this group is too large
pub record Outgrows {H : Type 0} (columns : ℕ) (cut : Option ℕ) (line : ℕ × List ℕ) (old new : ℕ → SessionData) (before after : H)
    (asked known : List GroupTextData) (fault : BuildFault) : Type 0 where
  pub command : ColumnCommand
  pub asks : AskInAll columns cut old line command
  pub refuses : (column : ℕ) → column < columns → RefusesSize (old column) (in_column column command) (new column) before after asked known fault

-- the line's command had begun, and a part of its rows was heard
pub record Starts {H : Type 0} (hear : H → Told → H) (part : H → Told → H → Type 0) (columns : ℕ) (cut : Option ℕ) (line : ℕ × List ℕ)
    (old new : ℕ → SessionData) (before after : H) (asked known : List GroupTextData) : Type 0 where
  pub command : ColumnCommand
  pub asks : AskInAll columns cut old line command
  pub begins : BeginsInAll hear part columns old command new before after asked known

-- what one line comes to
abbrev pub TakesTurn : {H : Type 0} → (H → Told → H) → (H → Told → H → Type 0) → ℕ → Option ℕ → ℕ × List ℕ → (ℕ → SessionData) → (ℕ → SessionData) → H → H →
    List GroupTextData → List GroupTextData → Result Turn Stop → Type 0
TakesTurn hear part columns cut line old new before after asked known (Ok Accepted) =
    Passes columns cut line old new before after asked known ⊎ Follows hear columns cut line old new before after asked known
TakesTurn hear part columns cut line old new before after asked known (Ok (Refused code)) =
    AreRefused columns cut old line (plain_cause code) × KeepInAll columns old new before after asked known
TakesTurn hear part columns cut line old new before after asked known (Ok (TooLarge fault)) = Outgrows columns cut line old new before after asked known fault
TakesTurn hear part columns cut line old new before after asked known (Err stop) =
    (after ≡ before) ⊎ Starts hear part columns cut line old new before after asked known

-- the lines of a script were obeyed in each column, to this refused line, if one ended them: their rows were heard, and their texts analysed
pub record HaveObeyed {H : Type 0} (hear : H → Told → H) (columns : ℕ) (cut : Option ℕ) (start : ℕ → SessionData) (lines : List (ℕ × List ℕ))
    (before after : H) (asked known : List GroupTextData) (last : Option RefusedLine) : Type 0 where
  pub told : List Told
  pub texts : List GroupTextData
  pub runs : RunsInAll columns cut start lines told texts last
  pub heard : after ≡ hear_all hear before told
  pub analysed : known ≡ asked ++ texts

-- they were obeyed to the line with this number, which is refused since a group of the circuit is too large, the first of which is told
pub record HaveOutgrown {H : Type 0} (hear : H → Told → H) (columns : ℕ) (cut : Option ℕ) (start : ℕ → SessionData) (lines : List (ℕ × List ℕ))
    (new : SessionData) (before after : H) (asked known : List GroupTextData) (number : ℕ) (fault : BuildFault) : Type 0 where
  pub first : TellsRefused new.large new.circuit.graph fault
  pub halted : (other : BuildFault) (cause : Cause) → TellsRefused new.large new.circuit.graph other → size_cause new.circuit other ≡ Some cause →
      HaveObeyed hear columns cut start lines before after asked known (Some (record { line = number; cause = cause }))

-- how the lines of a script end in columns, with these data of the first: all were obeyed, or the line with a number is refused under a code or
-- for the size of a group
abbrev pub HaltsAt : {H : Type 0} → (H → Told → H) → ℕ → Option ℕ → (ℕ → SessionData) → List (ℕ × List ℕ) → SessionData → H → H → List GroupTextData →
    List GroupTextData → Halt → Type 0
HaltsAt hear columns cut start lines new before after asked known halt.End = HaveObeyed hear columns cut start lines before after asked known None
HaltsAt hear columns cut start lines new before after asked known (halt.Refused number code) =
    HaveObeyed hear columns cut start lines before after asked known (Some (record { line = number; cause = plain_cause code }))
HaltsAt hear columns cut start lines new before after asked known (halt.TooLarge number fault) =
    HaveOutgrown hear columns cut start lines new before after asked known number fault

-- of the rows of some run to its end a front was heard, and of the next line a part, or nothing
pub record BreakOff {H : Type 0} (hear : H → Told → H) (part : H → Told → H → Type 0) (columns : ℕ) (cut : Option ℕ) (start : ℕ → SessionData)
    (lines : List (ℕ × List ℕ)) (before after : H) : Type 0 where
  pub told : List Told
  pub texts : List GroupTextData
  pub last : Option RefusedLine
  pub runs : RunsInAll columns cut start lines told texts last
  pub heard : HearsFront hear part before after told

-- what obeying the lines of a script in columns comes to; where it stopped, nothing was heard, or a part of the rows
abbrev pub TellsHalt : {H : Type 0} → (H → Told → H) → (H → Told → H → Type 0) → ℕ → Option ℕ → (ℕ → SessionData) → List (ℕ × List ℕ) → SessionData → H → H →
    List GroupTextData → List GroupTextData → Result Halt Stop → Type 0
TellsHalt hear part columns cut start lines new before after asked known (Ok halt) = HaltsAt hear columns cut start lines new before after asked known halt
TellsHalt hear part columns cut start lines new before after asked known (Err stop) =
    (after ≡ before) ⊎ BreakOff hear part columns cut start lines before after
