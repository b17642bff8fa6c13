-- What the program answers to the words of its command line, and what a call that meets a fault may have written.
use Rattle.std.specs.Prelude.{◌≡◌, ℕ, List, Option}
use Rattle.line_words.specs.Files.{lines_in, cut_line}
use Rattle.netlist.specs.Circuits.{CircuitData}
use Rattle.sim_read.specs.Meaning.{netlist_of}
use Rattle.spice_read.specs.Making.{circuit_of}
use Rattle.group_text.specs.Texts.{GroupTextData}
use Rattle.session_meaning.specs.Sessions.{start_of}
use Rattle.run_ends.specs.declared.status.Status.{Status}
use Rattle.run_ends.specs.declared.status.Status.TheVariants as status
use Rattle.cosmos_app.specs.ColumnRuns.{IsColumnRun}
use Rattle.command_line.specs.Requests.{Question, Simulate, Batch, Check, Groups, Compile, Lint, Explain, Judge, Cover, Request, About, Generate, SumUp, OverDeck, Show, Unclear, request_of}
use Rattle.run_ends.specs.Answers.{Answer, IsWritten, IsStopped, IsAnalysed}
use Rattle.script_meaning.specs.Runs.{plain_reading, IsScriptAnswer}
use Rattle.script_reports.specs.Reasoned.{IsReasoned}
use Rattle.script_reports.specs.Covered.{IsCovered}
use Rattle.fault_meaning.specs.Judging.{AreJudgedFaults}
use Rattle.circuit_reports.specs.Answers.{IsUsage, IsOver, IsOverDeck, IsCheck, IsGroups, IsLinted, IsCompiled, IsGenerated, IsShown}
use Rattle.script_reports.specs.Answers.{IsSampleSummary}

-- the answer of a simulation: that of the script's lines from the start in the circuit
abbrev pub IsSimulation : List ℕ → CircuitData → Answer → Type 0
IsSimulation script circuit answer = IsScriptAnswer plain_reading (cut_line script) (start_of circuit) (lines_in script) answer

-- the answer to a question about a circuit, by what the names hold
abbrev pub IsAnswerIn : Question → (List ℕ → List ℕ) → CircuitData → Answer → Type 0
IsAnswerIn (Simulate script) holds = IsSimulation (holds script)
IsAnswerIn (Batch columns script) holds = IsColumnRun columns (holds script)
IsAnswerIn Check holds = IsCheck
IsAnswerIn Groups holds = IsGroups
IsAnswerIn Compile holds = IsCompiled
IsAnswerIn Lint holds = IsLinted
IsAnswerIn (Explain script node) holds = IsReasoned (holds script) node
IsAnswerIn (Judge script list) holds = AreJudgedFaults (holds script) (holds list)
IsAnswerIn (Cover script) holds = IsCovered (holds script)

-- the answer to a request, by what the names hold
abbrev pub IsAnswerTo : Request → (List ℕ → List ℕ) → Answer → Type 0
IsAnswerTo (About net question) holds answer = IsOver (IsAnswerIn question holds) (netlist_of (holds net)) answer
IsAnswerTo (Generate part sample) holds answer = IsGenerated part sample answer
IsAnswerTo (SumUp sample) holds answer = IsSampleSummary sample answer
IsAnswerTo (OverDeck deck question) holds answer = IsOverDeck (IsAnswerIn question holds) (circuit_of (holds deck)) answer
IsAnswerTo (Show text) holds answer = IsShown text answer
IsAnswerTo Unclear holds answer = IsUsage answer

-- the answer of the words
abbrev pub IsAnswer : List (List ℕ) → (List ℕ → List ℕ) → Answer → Type 0
IsAnswer words holds answer = IsAnswerTo (request_of words) holds answer

-- a right answer of the words was written whole and its texts were analysed; after a fault of reading nothing was written, and after one of
-- writing or lack of memory nothing or a part of a right answer
abbrev pub IsAnswered : List (List ℕ) → (List ℕ → List ℕ) → Option (List ℕ) → Option (List ℕ) → List GroupTextData → List GroupTextData → Status → Type 0
IsAnswered words holds old new before after status.ReadFault = new ≡ old
IsAnswered words holds old new before after status.WriteFault = IsStopped (IsAnswer words holds) old new
IsAnswered words holds old new before after status.NoMemory = IsStopped (IsAnswer words holds) old new
IsAnswered words holds old new before after status = IsWritten (IsAnalysed (IsAnswer words holds) before after) old new status
