-- What is answered of a script: which of 0 and 1 each node never had while it ran.
use Rattle.std.specs.Prelude.{◌≡◌, ℕ, List, ◌∷◌, length, Option, None, Some}
use Rattle.switch_paths.specs.Graphs.{nodes}
use Rattle.settling.specs.Passes.{View, states_of}
use Rattle.state_cover.specs.declared.had.Had.{Had}
use Rattle.state_cover.specs.Laws.{TellStates}
use Rattle.state_cover.specs.Lines.{cover_text}
use Rattle.line_words.specs.Files.{lines_in, cut_line}
use Rattle.netlist.specs.Circuits.{CircuitData}
use Rattle.session_meaning.specs.Sessions.{SessionData, start_of}
use Rattle.run_ends.specs.declared.status.Status.{Status}
use Rattle.run_ends.specs.declared.status.Status.TheVariants.{Done, ScriptRefused}
use Rattle.run_ends.specs.Answers.{Answer}
use Rattle.script_meaning.specs.Runs.{Outcome, RefusedLine, Runs, plain_reading, refusal_text}
use Rattle.script_meaning.specs.Shown.{Shows}

-- the text tells of each node that is there at the end of the lines, but the rails, which of 0 and 1 it never had: in the state at the start,
-- in which these are X, and in those that the lines show, where a step or a phase begins, behind each of its unit steps, and behind each line
pub record TellsCover (cut : Option ℕ) (start : SessionData) (lines : List (ℕ × List ℕ)) (end : SessionData) (text : List ℕ) : Type 0 where
  pub shown : List View
  pub shows : Shows plain_reading cut start lines end shown
  pub hads : List Had
  pub count : length hads ≡ nodes end.circuit.graph
  pub tells : TellStates (start.state ∷ states_of shown) hads
  pub told : text ≡ cover_text end.circuit hads

-- the status and the text that tell it where a script ended: the line of its refusal alone, if one ended it
abbrev pub IsCoveredAt : Option ℕ → SessionData → List (ℕ × List ℕ) → SessionData → Option RefusedLine → Status → List ℕ → Type 0
IsCoveredAt cut start lines end None status text = (status ≡ Done) × TellsCover cut start lines end text
IsCoveredAt cut start lines end (Some stopped) status text = (status ≡ ScriptRefused) × (text ≡ refusal_text (Some stopped))

-- the answer tells which of 0 and 1 each node never had in the run of a script from the start in the circuit: its lines aren't written,
-- and an expectation that is not met counts for nothing
pub record IsCovered (script : List ℕ) (circuit : CircuitData) (answer : Answer) : Type 0 where
  pub outcome : Outcome
  pub runs : Runs plain_reading (cut_line script) (start_of circuit) (lines_in script) outcome
  pub covered : IsCoveredAt (cut_line script) (start_of circuit) (lines_in script) outcome.end outcome.refused answer.status answer.text
  pub texts : answer.texts ≡ outcome.texts
