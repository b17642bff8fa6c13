-- What a script does when it runs, from some data of a session: its lines as values, the texts of groups that are analysed for it, the
-- data at its end, and the refusal that ends it, if one does.
use Rattle.std.specs.Prelude.{◌≡◌, ◌≢◌, ℕ, true, false, List, [], ◌∷◌, ◌++◌, Option, None, Some, Result, Ok, Err, if◌then◌else◌}
use Rattle.line_words.specs.Files.{is_cut}
use Rattle.netlist.specs.Circuits.{CircuitData}
use Rattle.group_text.specs.Texts.{GroupTextData}
use Rattle.circuit_texts.specs.declared.texts.BuildFault.{BuildFault}
use Rattle.circuit_texts.specs.Sizes.{TellsRefused}
use Rattle.script_lang.specs.declared.command.Command.{Command}
use Rattle.script_lang.specs.declared.command.ScriptFault.{ScriptFault}
use Rattle.script_lang.specs.declared.command.ScriptFault.TheVariants.{NoMemory}
use Rattle.script_lang.specs.Commands.{reading_of}
use Rattle.script_lang.specs.Forms.{IsFormed}
use Rattle.session_meaning.specs.declared.fault.Refusal.{Refusal}
use Rattle.session_meaning.specs.Sessions.{SessionData}
use Rattle.session_meaning.specs.Refusals.{refusal_of}
use Rattle.session_meaning.specs.Preparing.{builds}
use Rattle.told_lines.specs.Lines.{Line, Refused, text_of}
use Rattle.session_meaning.specs.Outcomes.{Performs}
use Rattle.printed_lines.specs.declared.faults.FaultPlace.TheVariants.{Script}
use Rattle.printed_lines.specs.declared.faults.FaultCode.{FaultCode}
use Rattle.printed_lines.specs.declared.faults.FaultCode.TheVariants.{S11TooLong}
use Rattle.run_ends.specs.declared.status.Status.{Status}
use Rattle.run_ends.specs.declared.status.Status.TheVariants.{Done, Mismatch, ScriptRefused}
use Rattle.run_ends.specs.Answers.{Answer}
use Rattle.run_ends.specs.Causes.{Cause, plain_cause, size_cause, cause_line}
use Rattle.script_meaning.specs.Codes.{script_code, refusal_code}

-- how a line is read in a circuit with vectors: the command that it asks for, nothing to do, or why it is no command
abbrev pub Reading : Type 0
Reading = CircuitData → List (List ℕ × List ℕ) → List ℕ → Result (Option Command) ScriptFault

-- the reading of scripts: a line is its command, whatever the circuit and the vectors are
abbrev pub plain_reading : Reading
plain_reading circuit vectors line = reading_of line

-- a reading refuses no line for lack of memory, and each command that it gives is well formed
pub record IsSound (reading : Reading) : Type 0 where
  pub named : (circuit : CircuitData) (vectors : List (List ℕ × List ℕ)) (line : List ℕ) → reading circuit vectors line ≢ Err NoMemory
  pub formed : (circuit : CircuitData) (vectors : List (List ℕ × List ℕ)) (line : List ℕ) (command : Command) →
      reading circuit vectors line ≡ Ok (Some command) → IsFormed command

-- the line of a script at which it stopped, and why that is refused
pub record RefusedLine : Type 0 where
  pub line : ℕ
  pub cause : Cause

-- what comes of a script: the lines that it writes, the texts of groups that are analysed, the data at its end, and the refusal that ends
-- it, if one does
pub record Outcome : Type 0 where
  pub lines : List Line
  pub texts : List GroupTextData
  pub end : SessionData
  pub refused : Option RefusedLine

-- nothing comes of a script without lines
abbrev pub at_end : SessionData → Outcome
at_end session = record { lines = []; texts = []; end = session; refused = None }

-- nor of a script whose first line is refused
abbrev pub refused_at : SessionData → ℕ → Cause → Outcome
refused_at session number cause =
    record { lines = []; texts = []; end = session; refused = Some (record { line = number; cause = cause }) }

-- what comes of a script after these lines were written and these texts analysed
abbrev pub after_command : List Line → List GroupTextData → Outcome → Outcome
after_command lines texts rest =
    record { lines = lines ++ rest.lines; texts = texts ++ rest.texts; end = rest.end; refused = rest.refused }

-- the line asks for nothing: it has no words, or is a comment
pub record IsIdle (reading : Reading) (cut : Option ℕ) (session : SessionData) (line : ℕ × List ℕ) : Type 0 where
  pub inside : is_cut cut line.0 ≡ false
  pub nothing : reading session.circuit session.vectors line.1 ≡ Ok None

-- the line asks for a command
pub record Asks (reading : Reading) (cut : Option ℕ) (session : SessionData) (line : ℕ × List ℕ) (command : Command) : Type 0 where
  pub inside : is_cut cut line.0 ≡ false
  pub asked : reading session.circuit session.vectors line.1 ≡ Ok (Some command)

-- the line is refused for this cause: it holds the first byte too many of the script; or it is no command; or its command is refused; or
-- the circuit can't be built for its command, since a group is too large
pub data IsRefused (reading : Reading) (cut : Option ℕ) (session : SessionData) (line : ℕ × List ℕ) (cause : Cause) : Type 0 where
  too_long : is_cut cut line.0 ≡ true → cause ≡ plain_cause S11TooLong → IsRefused reading cut session line cause
  unread : (fault : ScriptFault) (code : FaultCode) → is_cut cut line.0 ≡ false → reading session.circuit session.vectors line.1 ≡ Err fault →
      script_code fault ≡ Some code → cause ≡ plain_cause code → IsRefused reading cut session line cause
  refused : (command : Command) (refusal : Refusal) → Asks reading cut session line command → refusal_of session command ≡ Some refusal →
      cause ≡ plain_cause (refusal_code refusal) → IsRefused reading cut session line cause
  too_large : (command : Command) (fault : BuildFault) → Asks reading cut session line command → refusal_of session command ≡ None →
      builds command ≡ true → TellsRefused session.large session.circuit.graph fault → size_cause session.circuit fault ≡ Some cause →
      IsRefused reading cut session line cause

-- a script runs from some data: to its end, past a line that asks for nothing, past a command's line with what the command does, or to a
-- line that is refused
pub data Runs (reading : Reading) (cut : Option ℕ) : SessionData → List (ℕ × List ℕ) → Outcome → Type 0 where
  ends : (session : SessionData) → Runs reading cut session [] (at_end session)
  passes : (session : SessionData) (line : ℕ × List ℕ) (lines : List (ℕ × List ℕ)) (rest : Outcome) →
      IsIdle reading cut session line → Runs reading cut session lines rest → Runs reading cut session (line ∷ lines) rest
  obeys : (session new : SessionData) (line : ℕ × List ℕ) (lines : List (ℕ × List ℕ)) (command : Command) (wrote : List Line)
      (texts : List GroupTextData) (rest : Outcome) → Asks reading cut session line command → Performs session command new wrote texts →
      Runs reading cut new lines rest → Runs reading cut session (line ∷ lines) (after_command wrote texts rest)
  refuses : (session : SessionData) (line : ℕ × List ℕ) (lines : List (ℕ × List ℕ)) (cause : Cause) →
      IsRefused reading cut session line cause → Runs reading cut session (line ∷ lines) (refused_at session line.0 cause)

-- the line of a refusal, as a value
abbrev pub refusal_line : RefusedLine → Line
refusal_line stopped = Refused (Script stopped.line) stopped.cause.code stopped.cause.name stopped.cause.count

-- the line of the refusal that ended a script, if one did
abbrev pub refusal_lines : Option RefusedLine → List Line
refusal_lines None = []
refusal_lines (Some stopped) = refusal_line stopped ∷ []

-- the lines that a script tells: those of its commands, and then that of the refusal that ended it, if one did
abbrev pub lines_told : Outcome → List Line
lines_told outcome = outcome.lines ++ refusal_lines outcome.refused

-- the text of the refusal that ended a script: the fault's line is the last
abbrev pub refusal_text : Option RefusedLine → List ℕ
refusal_text None = []
refusal_text (Some stopped) = cause_line (Script stopped.line) stopped.cause

-- the status of a script: a line was refused; else an expectation that was not met is a mismatch
abbrev pub status_told : SessionData → Option RefusedLine → Status
status_told end None = if end.missed then Mismatch else Done
status_told end (Some stopped) = ScriptRefused

-- the answer that tells what came of a script
abbrev pub answer_told : Outcome → Answer
answer_told outcome = record {
  status = status_told outcome.end outcome.refused;
  text = text_of outcome.lines ++ refusal_text outcome.refused;
  texts = outcome.texts;
}

-- the answer of a script's lines, from some data
pub record IsScriptAnswer (reading : Reading) (cut : Option ℕ) (start : SessionData) (lines : List (ℕ × List ℕ)) (answer : Answer) : Type 0 where
  pub outcome : Outcome
  pub runs : Runs reading cut start lines outcome
  pub told : answer ≡ answer_told outcome
