-- What the waveform lines of a run tell together, and the answer that tells it.
use Rattle.std.specs.Prelude.{◌≡◌, ℕ, List, [], Option, None, Some}
use Rattle.printed_lines.specs.declared.lines.Summary.{Summary}
use Rattle.printed_lines.specs.Lines.{summary_line_of}
use Rattle.told_lines.specs.Lines.{Line}
use Rattle.told_lines.specs.Sums.{summary_of}
use Rattle.session_meaning.specs.Sessions.{SessionData}
use Rattle.run_ends.specs.declared.status.Status.{Status}
use Rattle.run_ends.specs.declared.status.Status.TheVariants.{Done}
use Rattle.run_ends.specs.Answers.{Answer}
use Rattle.script_meaning.specs.Runs.{RefusedLine, Outcome, Runs, plain_reading, refusal_text, status_told}

-- nothing was counted so far
abbrev pub IsBlank : Summary → Type 0
IsBlank summary = summary ≡ summary_of summary.nodes summary.switches []

-- the text that sums a run up: the summary line of its lines, or the line of the refusal that ended it alone
abbrev pub summed_text : ℕ → ℕ → List Line → Option RefusedLine → List ℕ
summed_text nodes switches lines None = summary_line_of (summary_of nodes switches lines)
summed_text nodes switches lines (Some stopped) = refusal_text (Some stopped)

-- the status of a run that is summed up: an expectation that was not met counts for nothing
abbrev pub summed_status : SessionData → Option RefusedLine → Status
summed_status end None = Done
summed_status end (Some stopped) = status_told end (Some stopped)

-- the answer that sums a run up
abbrev pub summed_up : ℕ → ℕ → Outcome → Answer
summed_up nodes switches outcome = record {
  status = summed_status outcome.end outcome.refused;
  text = summed_text nodes switches outcome.lines outcome.refused;
  texts = outcome.texts;
}

-- the answer sums up the run of these lines from some data, in a circuit with so many nodes and transistors
pub record IsSummedUp (nodes switches : ℕ) (cut : Option ℕ) (start : SessionData) (lines : List (ℕ × List ℕ)) (answer : Answer) : Type 0 where
  pub outcome : Outcome
  pub runs : Runs plain_reading cut start lines outcome
  pub told : answer ≡ summed_up nodes switches outcome
