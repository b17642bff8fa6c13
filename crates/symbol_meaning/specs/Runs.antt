-- What a symbolic script does when it runs: under each valuation it is a plain script, all are refused at the same line, if at any, and what they write
-- is told together.
use Rattle.std.specs.Prelude.{◌≡◌, ℕ, ◌<◌, Bool, false, List, [], ◌∷◌, ◌++◌, codes, Option, Some, None, Result, Ok, Err, if◌then◌else◌}
use Rattle.std.specs.List.{list_any}
use Rattle.group_text.specs.Texts.{GroupTextData}
use Rattle.script_lang.specs.declared.command.ScriptFault.{ScriptFault}
use Rattle.printed_lines.specs.declared.faults.FaultPlace.TheVariants.{Script}
use Rattle.printed_lines.specs.Faults.{place_of}
use Rattle.told_lines.specs.Lines.{Line}
use Rattle.run_ends.specs.declared.status.Status.{Status}
use Rattle.run_ends.specs.declared.status.Status.TheVariants.{Done, Mismatch, ScriptRefused}
use Rattle.run_ends.specs.Answers.{Answer}
use Rattle.run_ends.specs.Causes.{Cause}
use Rattle.session_meaning.specs.Sessions.{SessionData}
use Rattle.script_meaning.specs.Runs.{RefusedLine, IsRefused, refusal_text}
use Rattle.script_meaning.specs.FirstRefused.{IsObeyed}
use Rattle.symbol_lines.specs.declared.names.NameFault.{NameFault}
use Rattle.symbol_lines.specs.declared.names.NameFault.TheVariants as fault
use Rattle.symbol_script.specs.declared.line.SymbolLine.{SymbolLine}
use Rattle.symbol_script.specs.Lines.{symbol_reading_of}
use Rattle.symbol_meaning.specs.Scripts.{NamedStop, before_stop, read_of, stop_of, variables_of}
use Rattle.symbol_meaning.specs.Readings.{Valuations, reading_under, valuations_of}
use Rattle.symbol_meaning.specs.Told.{SymbolTold, is_unmet, texts_told}
use Rattle.symbol_meaning.specs.Merging.{Merges}

-- what a line asks for that is no refused one
abbrev pub asked_in : Result (Option SymbolLine) ScriptFault → Option SymbolLine
asked_in (Ok asked) = asked
asked_in (Err fault) = None

-- in each column a line is obeyed, for which the same texts are analysed in all, and this is told
pub record IsObeyedInAll (quiet : Bool) (v : Valuations) (cut : Option ℕ) (old : ℕ → SessionData) (line : ℕ × List ℕ) (new : ℕ → SessionData)
    (told : List SymbolTold) (texts : List GroupTextData) : Type 0 where
  pub lines : ℕ → List Line
  pub each : (column : ℕ) → column < v.columns → IsObeyed (reading_under quiet (v.values column)) cut (old column) line (new column) (lines column) texts
  pub merged : Merges v old (asked_in (symbol_reading_of quiet line.1)) lines told

-- in each column a line is refused for this cause
abbrev pub AreRefused : Bool → Valuations → Option ℕ → (ℕ → SessionData) → ℕ × List ℕ → Cause → Type 0
AreRefused quiet v cut sessions line cause =
    (column : ℕ) → column < v.columns → IsRefused (reading_under quiet (v.values column)) cut (sessions column) line cause

-- lines run in all columns, each from its data, to the end or to one that is refused: this is told, and these texts are analysed
pub data RunsInAll (quiet : Bool) (v : Valuations) (cut : Option ℕ) :
    (ℕ → SessionData) → List (ℕ × List ℕ) → (ℕ → SessionData) → List SymbolTold → List GroupTextData → Option RefusedLine → Type 0 where
  ends : (sessions : ℕ → SessionData) → RunsInAll quiet v cut sessions [] sessions [] [] None
  obeys : (old mid new : ℕ → SessionData) (line : ℕ × List ℕ) (lines : List (ℕ × List ℕ)) (told more : List SymbolTold) (texts others : List GroupTextData)
      (last : Option RefusedLine) → IsObeyedInAll quiet v cut old line mid told texts → RunsInAll quiet v cut mid lines new more others last →
      RunsInAll quiet v cut old (line ∷ lines) new (told ++ more) (texts ++ others) last
  refuses : (sessions : ℕ → SessionData) (line : ℕ × List ℕ) (lines : List (ℕ × List ℕ)) (cause : Cause) → AreRefused quiet v cut sessions line cause →
      RunsInAll quiet v cut sessions (line ∷ lines) sessions [] [] (Some (record { line = line.0; cause = cause }))

-- ---- the answer

-- the text of a fault of names
abbrev pub name_fault_text : NameFault → List ℕ
name_fault_text fault.TooManyVariables = codes "S19 TooManyVariables"
name_fault_text fault.NameDefined = codes "S18 NameDefined"
name_fault_text fault.NoMemory = []

-- the line of a refusal by names
abbrev pub named_line : NamedStop → List ℕ
named_line stop = place_of (Script stop.0) ++ name_fault_text stop.1 ++ codes "\n"

-- the line of the refusal that ends a script, if one does: that of a line that was reached, and else that of the one that is refused by its names
abbrev pub end_text : Option RefusedLine → Option NamedStop → List ℕ
end_text (Some stopped) stop = refusal_text (Some stopped)
end_text None (Some stop) = named_line stop
end_text None None = []

-- the status: a line was refused; else an expectation that isn't met under some valuation is a mismatch
abbrev pub status_of_all : List SymbolTold → Option RefusedLine → Option NamedStop → Status
status_of_all told (Some stopped) stop = ScriptRefused
status_of_all told None (Some stop) = ScriptRefused
status_of_all told None None = if list_any is_unmet told then Mismatch else Done

-- the answer that tells this of so many variables, and the refusal that ended it, if one did
abbrev pub answer_told : List (List ℕ) → List SymbolTold → Option RefusedLine → Option NamedStop → List GroupTextData → Answer
answer_told variables told last stop texts = record {
  status = status_of_all told last stop;
  text = texts_told variables told ++ end_text last stop;
  texts = texts;
}

-- the answer of a symbolic script's lines, from some data: the lines before the one that is refused by its names run in all columns
pub record IsSymbolicAnswer (cut : Option ℕ) (start : SessionData) (lines : List (ℕ × List ℕ)) (answer : Answer) : Type 0 where
  pub end : ℕ → SessionData
  pub told : List SymbolTold
  pub last : Option RefusedLine
  pub runs : RunsInAll false (valuations_of (read_of false cut lines)) cut (λ column. start) (before_stop (stop_of false cut lines) lines) end told answer.texts last
  pub told_is : answer ≡ answer_told (variables_of (read_of false cut lines)) told last (stop_of false cut lines) answer.texts

-- the run stopped at the line with this number, where there was no vertex more: what was written is a prefix of a right answer's text, and the line is
-- one that would have been obeyed
pub record StopsFull (cut : Option ℕ) (start : SessionData) (lines : List (ℕ × List ℕ)) (number : ℕ) (written : List ℕ) : Type 0 where
  pub answer : Answer
  pub right : IsSymbolicAnswer cut start lines answer
  pub rest : List ℕ
  pub front : answer.text ≡ written ++ rest
  pub text : List ℕ
  pub before : List (ℕ × List ℕ)
  pub after : List (ℕ × List ℕ)
  pub split : before_stop (stop_of false cut lines) lines ≡ before ++ (number, text) ∷ after
