-- What the value change dump of a script tells: its lines as scenes, one after the other, and how it ends.
-- IEEE Standard 1364, section 18.
use Rattle.std.specs.Prelude.{◌≡◌, ℕ, Bool, true, false, ◌&&◌, ◌||◌, List, [], ◌∷◌, ◌++◌, map, Option, None, Some, option_map, unwrap_or}
use Rattle.settling.specs.Passes.{Pass}
use Rattle.line_words.specs.Files.{lines_in, cut_line}
use Rattle.netlist.specs.Circuits.{CircuitData}
use Rattle.group_text.specs.Texts.{GroupTextData}
use Rattle.node_words.specs.Words.{named}
use Rattle.script_lang.specs.declared.command.Command.{Command}
use Rattle.script_lang.specs.declared.command.Command.TheVariants as family
use Rattle.script_lang.specs.declared.command.Setup.TheVariants as setup
use Rattle.script_lang.specs.declared.command.Run.TheVariants as run
use Rattle.told_lines.specs.Lines.{Line, Wave, line_text}
use Rattle.printed_lines.specs.declared.faults.FaultCode.TheVariants.{S17LateWatch}
use Rattle.wave_dump.specs.Dumps.{dump_of}
use Rattle.wave_dump.specs.Scenes.{EntryData, Scene, Wrote, Watched, Became, Passed}
use Rattle.wave_dump.specs.Writing.{without_end}
use Rattle.session_meaning.specs.Sessions.{SessionData, start_of}
use Rattle.session_meaning.specs.Outcomes.{Performs}
use Rattle.session_meaning.specs.Passing.{PassesThrough}
use Rattle.run_ends.specs.Answers.{Answer}
use Rattle.run_ends.specs.Causes.{Cause, plain_cause}
use Rattle.script_meaning.specs.Runs.{RefusedLine, IsIdle, Asks, IsRefused, plain_reading, refusal_line, status_told}

-- a word that is watched, with the nodes that it stands for in a circuit and among vectors
abbrev pub entry_of : CircuitData → List (List ℕ × List ℕ) → List ℕ → EntryData
entry_of c vectors name = record { name = name; nodes = unwrap_or (named c vectors name) [] }

-- the words that a command watches
abbrev pub entries_asked : SessionData → Command → List EntryData
entries_asked old (family.Setup (setup.Watch names)) = map (entry_of old.circuit old.vectors) names
entries_asked old command = []

-- the command is `watch`
abbrev pub is_watch : Command → Bool
is_watch (family.Setup (setup.Watch names)) = true
is_watch command = false

-- the command is `step`, `phase` or `cycle`, before which all words must be watched
abbrev pub is_move : Command → Bool
is_move (family.Run run.Step) = true
is_move (family.Run run.Phase) = true
is_move (family.Run (run.Cycle times)) = true
is_move command = false

-- steps and phases as scenes, each in the state in which it begins
abbrev pub passing : List Pass → List Scene
passing [] = []
passing (pass ∷ passes) = Became pass.before ∷ Passed pass.steps pass.states ∷ passing passes

-- lines as scenes: each is a comment, but for waveform lines, which aren't written
abbrev pub comments : List Line → List Scene
comments [] = []
comments (Wave n k mark values ∷ lines) = comments lines
comments (line ∷ lines) = Wrote (without_end (line_text line)) ∷ comments lines

-- what a command tells: the words that it watches, its steps and phases, its lines, and the state behind it
abbrev pub scenes_of : SessionData → Command → List Pass → List Line → SessionData → List Scene
scenes_of old command passes wrote new = map Watched (entries_asked old command) ++ (passing passes ++ (comments wrote ++ Became new.state ∷ []))

-- what comes of a script: its scenes, the texts of groups that are analysed, the data at its end, and the refusal that ends it, if one does
pub record Dumped : Type 0 where
  pub scenes : List Scene
  pub texts : List GroupTextData
  pub end : SessionData
  pub refused : Option RefusedLine

-- nothing comes of a script without lines
abbrev pub dumped_at : SessionData → Dumped
dumped_at session = record { scenes = []; texts = []; end = session; refused = None }

-- nor of a script whose first line is refused
abbrev pub dump_refused : SessionData → ℕ → Cause → Dumped
dump_refused session number cause =
    record { scenes = []; texts = []; end = session; refused = Some (record { line = number; cause = cause }) }

-- what comes of a script behind these scenes and texts
abbrev pub behind : List Scene → List GroupTextData → Dumped → Dumped
behind scenes texts rest = record { scenes = scenes ++ rest.scenes; texts = texts ++ rest.texts; end = rest.end; refused = rest.refused }

-- the command doesn't come too late: it watches no word once a step or a phase was told
abbrev pub IsTimely : Bool → Command → Type 0
IsTimely begun command = (begun && is_watch command) ≡ false

-- the line is refused for this cause, once a step or a phase was told or before: as `sim` refuses it; or since it watches a word too late, which
-- goes before all refusals of the command
pub data IsDumpRefused (cut : Option ℕ) (begun : Bool) (session : SessionData) (line : ℕ × List ℕ) (cause : Cause) : Type 0 where
  as_ever : IsRefused plain_reading cut session line cause → ((command : Command) → Asks plain_reading cut session line command → IsTimely begun command) →
      IsDumpRefused cut begun session line cause
  too_late : (command : Command) → Asks plain_reading cut session line command → (begun && is_watch command) ≡ true → cause ≡ plain_cause S17LateWatch →
      IsDumpRefused cut begun session line cause

-- a script is dumped from some data, once a step or a phase was told or before: to its end, past a line that asks for nothing, past a command's
-- line with what the command tells, or to a line that is refused
pub data Dumps (cut : Option ℕ) : Bool → SessionData → List (ℕ × List ℕ) → Dumped → Type 0 where
  ends : (begun : Bool) (session : SessionData) → Dumps cut begun session [] (dumped_at session)
  passes : (begun : Bool) (session : SessionData) (line : ℕ × List ℕ) (lines : List (ℕ × List ℕ)) (rest : Dumped) →
      IsIdle plain_reading cut session line → Dumps cut begun session lines rest → Dumps cut begun session (line ∷ lines) rest
  obeys : (begun : Bool) (session new : SessionData) (line : ℕ × List ℕ) (lines : List (ℕ × List ℕ)) (command : Command) (through : List Pass)
      (wrote : List Line) (texts : List GroupTextData) (rest : Dumped) → Asks plain_reading cut session line command → IsTimely begun command →
      Performs session command new wrote texts → PassesThrough session command through → Dumps cut (begun || is_move command) new lines rest →
      Dumps cut begun session (line ∷ lines) (behind (scenes_of session command through wrote new) texts rest)
  refuses : (begun : Bool) (session : SessionData) (line : ℕ × List ℕ) (lines : List (ℕ × List ℕ)) (cause : Cause) →
      IsDumpRefused cut begun session line cause → Dumps cut begun session (line ∷ lines) (dump_refused session line.0 cause)

-- the line of the refusal that ended a script, without its LF
abbrev pub refusal_told : RefusedLine → List ℕ
refusal_told stopped = without_end (line_text (refusal_line stopped))

-- the answer that is the dump of a script
abbrev pub answer_dumped : SessionData → Dumped → Answer
answer_dumped start dumped = record {
  status = status_told dumped.end dumped.refused;
  text = dump_of start.state dumped.scenes (option_map refusal_told dumped.refused);
  texts = dumped.texts;
}

-- the answer is the dump of the run of a script from some data
pub record IsDumpFrom (script : List ℕ) (start : SessionData) (answer : Answer) : Type 0 where
  pub dumped : Dumped
  pub dumps : Dumps (cut_line script) false start (lines_in script) dumped
  pub told : answer ≡ answer_dumped start dumped

-- the answer is the dump of its run from the start in the circuit
abbrev pub IsDumped : List ℕ → CircuitData → Answer → Type 0
IsDumped script circuit = IsDumpFrom script (start_of circuit)
