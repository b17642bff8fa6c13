-- The words have one answer, unless they ask for a listing or for reasons; of these the status and the texts that are analysed are one.
use Rattle.std.proofs.Common.{◌≡◌, ℕ, false, List, refl, sym, ◌∙◌}
use Rattle.line_words.specs.Files.{lines_in, cut_line}
use Rattle.netlist.specs.Circuits.{CircuitData}
use Rattle.sim_read.specs.Meaning.{netlist_of}
use Rattle.spice_read.specs.Making.{circuit_of}
use Rattle.command_line.specs.Requests.{Question, Simulate, Batch, Check, Groups, Compile, Lint, Explain, Judge, Cover, Request, About, Generate, SumUp, OverDeck, Show, Unclear, request_of}
use Rattle.command_line.proofs.ColumnLemmas.{HasColumns, AsksColumns, asks_columns}
use Rattle.session_meaning.specs.Sessions.{start_of}
use Rattle.run_ends.specs.Answers.{Answer}
use Rattle.script_meaning.specs.Runs.{plain_reading}
use Rattle.script_meaning.proofs.UniqueRuns.{answer_unique}
use Rattle.column_run.proofs.UniqueColumnAnswers.{columns_unique}
use Rattle.fault_meaning.proofs.UniqueJudging.{judged_faults_unique}
use Rattle.circuit_reports.specs.Alike.{AreAlike}
use Rattle.circuit_reports.proofs.UniqueAnswers as circuit
use Rattle.script_reports.proofs.UniqueAnswers.{sample_unique, reasoned_alike, covered_unique}
use Rattle.cosmos_app.specs.Answers.{IsSimulation, IsAnswerIn, IsAnswerTo}
use Rattle.dump_run.specs.Dumped.{IsDumped}
use Rattle.dump_run.proofs.UniqueDumps.{dump_answer_unique}
use Rattle.cosmos_app.specs.Named.{circuit_named}
use Rattle.symbol_app.specs.Laws.{leaves_choice, asks_choice, AnswersAreUnique, AnswersAreAlike, DumpsHaveOneAnswer}
use Rattle.symbol_app.proofs.SymbolicAnswers.{either_unique}

-- ---- one answer

-- a simulation has one
simulated_unique : (script : List ℕ) (c : CircuitData) (first second : Answer) → IsSimulation script c first → IsSimulation script c second → first ≡ second
simulated_unique script c first second one two = answer_unique plain_reading (cut_line script) (start_of c) (lines_in script) first second one two

-- a question has one in a circuit, unless it leaves a choice
question_unique : (question : Question) (holds : List ℕ → List ℕ) → leaves_choice question ≡ false → HasColumns question →
    (c : CircuitData) (first second : Answer) → IsAnswerIn question holds c first → IsAnswerIn question holds c second → first ≡ second
question_unique (Simulate script) holds plain some c first second one two = simulated_unique (holds script) c first second one two
question_unique (Batch columns script) holds plain some c first second one two =
    columns_unique columns (cut_line (holds script)) (λ column. start_of c) (lines_in (holds script)) first second some one two
question_unique Check holds plain some c first second one two = one ∙ sym two
question_unique Groups holds plain some c first second one two = circuit.groups_unique c first second one two
question_unique Compile holds plain some c first second one two = absurd (cc (plain))
question_unique Lint holds plain some c first second one two = circuit.linted_unique c first second one two
question_unique (Explain script node) holds plain some c first second one two = absurd (cc (plain))
question_unique (Judge script list) holds plain some c first second one two = judged_faults_unique (holds script) (holds list) c first second one two
question_unique (Cover script) holds plain some c first second one two = covered_unique (holds script) c first second one two

-- and so has a request
request_unique : (request : Request) (holds : List ℕ → List ℕ) (first second : Answer) → asks_choice request ≡ false → AsksColumns request →
    IsAnswerTo request holds first → IsAnswerTo request holds second → first ≡ second
request_unique (About net question) holds first second plain some one two =
    circuit.over_unique (IsAnswerIn question holds) (question_unique question holds plain some) (netlist_of (holds net)) first second one two
request_unique (Generate part sample) holds first second plain some one two = one ∙ sym two
request_unique (SumUp sample) holds first second plain some one two = sample_unique sample first second one two
request_unique (OverDeck deck question) holds first second plain some one two =
    circuit.over_deck_unique (IsAnswerIn question holds) (question_unique question holds plain some) (circuit_of (holds deck)) first second one two
request_unique (Show text) holds first second plain some one two = one ∙ sym two
request_unique Unclear holds first second plain some one two = one ∙ sym two

pub answers_unique : AnswersAreUnique
answers_unique words holds first second plain one two = request_unique (request_of words) holds first second plain (asks_columns words) one two

-- ---- answers that are alike

-- any two answers of a question in a circuit are
question_alike : (question : Question) (holds : List ℕ → List ℕ) → HasColumns question → (c : CircuitData) (first second : Answer) →
    IsAnswerIn question holds c first → IsAnswerIn question holds c second → AreAlike first second
question_alike (Simulate script) holds some c first second one two =
    circuit.alike first second (question_unique (Simulate script) holds refl some c first second one two)
question_alike (Batch columns script) holds some c first second one two =
    circuit.alike first second (question_unique (Batch columns script) holds refl some c first second one two)
question_alike Check holds some c first second one two = circuit.alike first second (question_unique Check holds refl some c first second one two)
question_alike Groups holds some c first second one two = circuit.alike first second (question_unique Groups holds refl some c first second one two)
question_alike Compile holds some c first second one two = circuit.compiled_alike c first second one two
question_alike Lint holds some c first second one two = circuit.alike first second (question_unique Lint holds refl some c first second one two)
question_alike (Explain script node) holds some c first second one two = reasoned_alike (holds script) node c first second one two
question_alike (Judge script list) holds some c first second one two =
    circuit.alike first second (question_unique (Judge script list) holds refl some c first second one two)
question_alike (Cover script) holds some c first second one two = circuit.alike first second (question_unique (Cover script) holds refl some c first second one two)

-- and of a request
request_alike : (request : Request) (holds : List ℕ → List ℕ) (first second : Answer) → AsksColumns request →
    IsAnswerTo request holds first → IsAnswerTo request holds second → AreAlike first second
request_alike (About net question) holds first second some one two =
    circuit.over_alike (IsAnswerIn question holds) (question_alike question holds some) (netlist_of (holds net)) first second one two
request_alike (Generate part sample) holds first second some one two =
    circuit.alike first second (request_unique (Generate part sample) holds first second refl some one two)
request_alike (SumUp sample) holds first second some one two =
    circuit.alike first second (request_unique (SumUp sample) holds first second refl some one two)
request_alike (OverDeck deck question) holds first second some one two =
    circuit.over_deck_alike (IsAnswerIn question holds) (question_alike question holds some) (circuit_of (holds deck)) first second one two
request_alike (Show text) holds first second some one two =
    circuit.alike first second (request_unique (Show text) holds first second refl some one two)
request_alike Unclear holds first second some one two =
    circuit.alike first second (request_unique Unclear holds first second refl some one two)

pub answers_alike : AnswersAreAlike
answers_alike words holds first second one two = request_alike (request_of words) holds first second (asks_columns words) one two

-- ---- dumps

-- a dump has one answer
dumped_unique : (script : List ℕ) (c : CircuitData) (first second : Answer) → IsDumped script c first → IsDumped script c second → first ≡ second
dumped_unique script c first second one two = dump_answer_unique script (start_of c) first second one two

pub dumps_unique : DumpsHaveOneAnswer
dumps_unique net script holds = either_unique (IsDumped (holds script)) (dumped_unique (holds script)) (circuit_named net (holds net))
