-- What a script for columns does when it runs: in each column it is a plain script, and what they tell is told row by row.
use Rattle.std.specs.Prelude.{◌≡◌, ℕ, ◌<◌, true, List, ◌++◌, Option, None, Some}
use Rattle.group_text.specs.Texts.{GroupTextData}
use Rattle.column_script.specs.Columns.{column_reading_of}
use Rattle.told_lines.specs.Lines.{Told}
use Rattle.told_lines.specs.Printing.{text_printed}
use Rattle.session_meaning.specs.Columns.{AreRows}
use Rattle.session_meaning.specs.Sessions.{SessionData}
use Rattle.run_ends.specs.declared.status.Status.{Status}
use Rattle.run_ends.specs.declared.status.Status.TheVariants.{Done, ScriptRefused}
use Rattle.script_meaning.specs.Runs.{Reading, RefusedLine, Outcome, Runs, refusal_text}
use Rattle.run_ends.specs.Answers.{Answer}

-- how lines are read in one of so many columns, whatever the circuit and the vectors are: as a plain script's whose values are the
-- column's letters
abbrev pub reading_in : ℕ → ℕ → Reading
reading_in columns column circuit vectors line = column_reading_of columns column line

-- a script runs in so many columns, each from its data: in each it runs as a plain script to an outcome, in all of them the same texts are
-- analysed and the same refusal ends it, if one does, and row by row their lines are these
pub record RunsInAll (columns : ℕ) (cut : Option ℕ) (start : ℕ → SessionData) (lines : List (ℕ × List ℕ)) (told : List Told) (texts : List GroupTextData)
    (refused : Option RefusedLine) : Type 0 where
  pub outcome : ℕ → Outcome
  pub runs : (column : ℕ) → column < columns → Runs (reading_in columns column) cut (start column) lines (outcome column)
  pub analysed : (column : ℕ) → column < columns → (outcome column).texts ≡ texts
  pub ended : (column : ℕ) → column < columns → (outcome column).refused ≡ refused
  pub rows : AreRows columns (λ column. (outcome column).lines) told

-- the status of a script for columns: a line was refused, or none
abbrev pub status_ended : Option RefusedLine → Status
status_ended None = Done
status_ended (Some stopped) = ScriptRefused

-- the answer of a script's lines in columns: the rows as they are printed, each line after its column's number, and the line of the refusal that
-- ended them, if one did
pub record IsColumnAnswer (columns : ℕ) (cut : Option ℕ) (start : ℕ → SessionData) (lines : List (ℕ × List ℕ)) (answer : Answer) : Type 0 where
  pub rows : List Told
  pub refused : Option RefusedLine
  pub runs : RunsInAll columns cut start lines rows answer.texts refused
  pub told : answer ≡ record { status = status_ended refused; text = text_printed true rows ++ refusal_text refused; texts = answer.texts }
