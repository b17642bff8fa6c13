-- What is answered of a node: why it may be 1, and why it may be 0, in the circuit and the state at the end of a script.
-- After Bryant, "Boolean Analysis of MOS Circuits", 1987.
use Rattle.std.specs.Prelude.{◌≡◌, ℕ, Bool, true, false, List, ◌++◌, Option, None, Some}
use Rattle.ternary.specs.declared.tern.Tern.{Tern}
use Rattle.switch_paths.specs.Spread.{rail_of}
use Rattle.switch_paths.specs.declared.walks.Walk.{Walk}
use Rattle.line_words.specs.Files.{lines_in, cut_line}
use Rattle.netlist.specs.Circuits.{CircuitData}
use Rattle.netlist.specs.Names.{node_of}
use Rattle.why_path.specs.Reasons.{Explains}
use Rattle.why_path.specs.Lines.{IsReasonLine, no_reason_line_of}
use Rattle.printed_lines.specs.declared.faults.FaultPlace.TheVariants.{Node}
use Rattle.printed_lines.specs.declared.faults.FaultCode.TheVariants.{E1UnknownNode}
use Rattle.session_meaning.specs.Sessions.{SessionData, start_of}
use Rattle.run_ends.specs.declared.status.Status.{Status}
use Rattle.run_ends.specs.declared.status.Status.TheVariants.{Done, Usage, ScriptRefused}
use Rattle.run_ends.specs.Causes.{plain_cause, cause_line}
use Rattle.script_meaning.specs.Runs.{Outcome, RefusedLine, Runs, plain_reading, refusal_text}
use Rattle.run_ends.specs.Answers.{Answer}

-- the line tells this walk, or that there is none
abbrev pub TellsWalk : CircuitData → List Tern → Bool → Option Walk → List ℕ → Type 0
TellsWalk c state one None line = line ≡ no_reason_line_of one
TellsWalk c state one (Some walk) line = IsReasonLine c state one walk line

-- the line explains a rail of the node: it tells a best reason, or that there is no reason at all
pub record ExplainsRail (c : CircuitData) (state : List Tern) (node : ℕ) (one : Bool) (line : List ℕ) : Type 0 where
  pub walk : Option Walk
  pub explains : Explains (rail_of one) c.graph state node walk
  pub told : TellsWalk c state one walk line

-- the text explains the node: a line for "may be 1", and then one for "may be 0"
pub record ExplainsNode (c : CircuitData) (state : List Tern) (node : ℕ) (text : List ℕ) : Type 0 where
  pub one : List ℕ
  pub zero : List ℕ
  pub may_be_one : ExplainsRail c state node true one
  pub may_be_zero : ExplainsRail c state node false zero
  pub lines : text ≡ one ++ zero

-- the line for a name that isn't in use: `node: E1 UnknownNode`
abbrev pub unknown_node_line : List ℕ
unknown_node_line = cause_line Node (plain_cause E1UnknownNode)

-- the status and the text that explain a node in these data, if there is one; a name that isn't in use is refused
abbrev pub IsExplained : SessionData → Option ℕ → Status → List ℕ → Type 0
IsExplained session None status text = (status ≡ Usage) × (text ≡ unknown_node_line)
IsExplained session (Some node) status text = (status ≡ Done) × ExplainsNode session.circuit session.state node text

-- the status and the text that explain the node of this name where a script ended: the line of its refusal alone, if one ended it
abbrev pub IsExplainedAt : List ℕ → SessionData → Option RefusedLine → Status → List ℕ → Type 0
IsExplainedAt name end None status text = IsExplained end (node_of end.circuit.names name) status text
IsExplainedAt name end (Some stopped) status text = (status ≡ ScriptRefused) × (text ≡ refusal_text (Some stopped))

-- the answer explains the node of this name at the end of a script, which runs from the start in the circuit: its lines aren't written,
-- and an expectation that is not met counts for nothing
pub record IsReasoned (script name : List ℕ) (circuit : CircuitData) (answer : Answer) : Type 0 where
  pub outcome : Outcome
  pub runs : Runs plain_reading (cut_line script) (start_of circuit) (lines_in script) outcome
  pub explained : IsExplainedAt name outcome.end outcome.refused answer.status answer.text
  pub texts : answer.texts ≡ outcome.texts
