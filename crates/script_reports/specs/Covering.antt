-- Inside the program: telling the cover where the lines of a script ended, or the refusal that ended them.
use Rattle.std.specs.Prelude.{◌≡◌, List, length}
use Rattle.switch_paths.specs.Graphs.{nodes}
use Rattle.state_cover.specs.declared.had.Had.{Had}
use Rattle.state_cover.specs.Lines.{cover_text}
use Rattle.session_meaning.specs.Sessions.{SessionData}
use Rattle.script_meaning.specs.declared.halt.Halt.{Halt}
use Rattle.script_meaning.specs.declared.halt.Halt.TheVariants.{End, Refused, TooLarge}
use Rattle.run_ends.specs.declared.status.Status.TheVariants.{Done}
use Rattle.run_ends.specs.Answers.{Answer, plain_answer}
use Rattle.script_reports.specs.Explaining.{IsHaltRefused}

-- there are notes of each node at the end, and the answer tells them
pub record TellsNotes (hads : List Had) (end : SessionData) (answer : Answer) : Type 0 where
  pub count : length hads ≡ nodes end.circuit.graph
  pub told : answer ≡ plain_answer Done (cover_text end.circuit hads)

-- so it does if all lines were obeyed; else it is the line of the refusal that ended them
abbrev pub IsHaltCovered : List Had → SessionData → Halt → Answer → Type 0
IsHaltCovered hads end End = TellsNotes hads end
IsHaltCovered hads end (Refused number code) = IsHaltRefused end (Refused number code)
IsHaltCovered hads end (TooLarge number fault) = IsHaltRefused end (TooLarge number fault)
