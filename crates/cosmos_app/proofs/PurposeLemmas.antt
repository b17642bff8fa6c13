-- The run of a script for a purpose: what is told of the text that was read is told of the file, and of the question for the run.
use Rattle.std.proofs.Common.{◌≡◌, ℕ, ◌<◌, true, false, List, [], ◌∷◌, Option, None, Some, IfSome, Result, refl, ap, subst, ◌∙◌}
use Rattle.line_words.specs.Files.{front_of, lines_in, cut_line}
use Rattle.line_words.proofs.FileLemmas.{cut_line-front_of, lines_in-front_of}
use Rattle.netlist.specs.Circuits.{CircuitData}
use Rattle.group_text.specs.Texts.{GroupTextData}
use Rattle.told_lines.specs.Printing.{Page, PrinterData, print, PrintsPart}
use Rattle.session_meaning.specs.Sessions.{SessionData, start_of}
use Rattle.column_run.specs.ColumnAnswers.{IsColumnAnswer}
use Rattle.column_run.proofs.RunLemmas.{in_all-same}
use Rattle.run_ends.specs.declared.stop.Stop.{Stop}
use Rattle.run_ends.specs.declared.stop.End as end
use Rattle.run_ends.specs.Answers.{Answer}
use Rattle.script_reports.specs.Covered.{IsCoveredAt}
use Rattle.script_meaning.specs.Runs.{Runs, plain_reading, IsScriptAnswer}
use Rattle.run_ends.specs.Ends.{IsToldBy}
use Rattle.script_meaning.specs.Ends.{TellsRun}
use Rattle.script_meaning.proofs.PrintedLemmas.{printed_run}
use Rattle.command_line.specs.declared.request.Purpose.{Purpose}
use Rattle.command_line.specs.declared.request.Purpose.TheVariants.{Lines, Columns, Reasons, Cover}
use Rattle.command_line.specs.Requests.{run_seen}
use Rattle.cosmos_app.specs.ColumnRuns.{IsColumnRun}
use Rattle.command_line.specs.Columns.{columns_seen}
use Rattle.cosmos_app.specs.Answers.{IsSimulation, IsAnswerIn}
use Rattle.cosmos_app.specs.Purposes.{IsRunFor}
use Rattle.circuit_files.specs.Starts.{Started, StartsAtMost}
use Rattle.cosmos_app.specs.Starts.{ScriptStarts}
use Rattle.cosmos_app.specs.Wholes.{scripts_of}
use Rattle.run_ends.proofs.EndLemmas.{told_by_as}

-- ---- each purpose

-- the run of a session at its start, whose lines were told to a printer once it was set to number no columns, is the simulation
pub told_lines : (circuit : CircuitData) (start new : SessionData) (text : List ℕ) (printer plain : PrinterData) (after : Page) (asked told : List GroupTextData)
    (result : Result end.End Stop) → start ≡ start_of circuit → plain ≡ record printer { page = record printer.page { numbered = false } } →
    TellsRun print PrintsPart plain_reading (cut_line text) start (lines_in text) new plain.page after asked told result →
    IsToldBy (IsSimulation text circuit) printer.page.written after.written asked told result
told_lines circuit start new text printer plain after asked told result first set run =
    subst (λ (from : SessionData). IsToldBy (IsScriptAnswer plain_reading (cut_line text) from (lines_in text)) printer.page.written after.written asked told result)
    first
    (subst (λ (before : Option (List ℕ)). IsToldBy (IsScriptAnswer plain_reading (cut_line text) start (lines_in text)) before after.written asked told result)
    (ap (λ (now : PrinterData). now.page.written) set)
    (printed_run plain_reading (cut_line text) start (lines_in text) new plain.page after asked told result
    (ap (λ (now : PrinterData). now.page.numbered) set) run))

-- the answer of columns at their start is that in so many columns
answers_columns : (columns count : ℕ) (circuit : CircuitData) (sessions : ℕ → SessionData) (text : List ℕ) (answer : Answer) → count ≡ columns →
    ((column : ℕ) → column < count → sessions column ≡ start_of circuit) → IsColumnAnswer count (cut_line text) sessions (lines_in text) answer →
    IsColumnRun columns text circuit answer
answers_columns columns count circuit sessions text answer same start right =
    subst (λ (n : ℕ). IsColumnRun n text circuit answer) same
    (record {
      rows = right.rows;
      refused = right.refused;
      runs = in_all-same count (cut_line text) (λ column. start_of circuit) sessions (lines_in text) right.rows answer.texts right.refused start right.runs;
      told = right.told;
    })

-- so it is with columns whose lines were told to a printer once it was set to number columns
pub told_columns : (columns count : ℕ) (circuit : CircuitData) (sessions : ℕ → SessionData) (text : List ℕ) (printer numbered : PrinterData) (after : Option (List ℕ))
    (asked told : List GroupTextData) (result : Result end.End Stop) → count ≡ columns →
    ((column : ℕ) → column < count → sessions column ≡ start_of circuit) →
    numbered ≡ record printer { page = record printer.page { numbered = true } } →
    IsToldBy (IsColumnAnswer count (cut_line text) sessions (lines_in text)) numbered.page.written after asked told result →
    IsToldBy (IsColumnRun columns text circuit) printer.page.written after asked told result
told_columns columns count circuit sessions text printer numbered after asked told result same start set run =
    told_by_as (IsColumnAnswer count (cut_line text) sessions (lines_in text)) (IsColumnRun columns text circuit) printer.page.written
    after asked told result
    (λ answer right. answers_columns columns count circuit sessions text answer same start right)
    (subst
    (λ (before : Option (List ℕ)). IsToldBy (IsColumnAnswer count (cut_line text) sessions (lines_in text)) before after asked told result)
    (ap (λ (now : PrinterData). now.page.written) set) run)

-- ---- the text that was read

-- what is so of the lines of a script's front is so of its lines
pub at_front : (P : Option ℕ → List (ℕ × List ℕ) → Type 0) (script : List ℕ) → P (cut_line (front_of script)) (lines_in (front_of script)) →
    P (cut_line script) (lines_in script)
at_front P script is =
    subst (λ cut. P cut (lines_in script)) (cut_line-front_of script)
    (subst (λ lines. P (cut_line (front_of script)) lines) (lines_in-front_of script) is)

-- the answer of a script's front is that of the script
run_for-front : (purpose : Purpose) (script : List ℕ) (circuit : CircuitData) (answer : Answer) → IsRunFor purpose (front_of script) circuit answer →
    IsRunFor purpose script circuit answer
run_for-front Lines script circuit answer right =
    at_front (λ cut lines. IsScriptAnswer plain_reading cut (start_of circuit) lines answer) script right
run_for-front (Columns columns) script circuit answer right =
    at_front (λ cut lines. IsColumnAnswer (columns_seen columns) cut (λ column. start_of circuit) lines answer) script right
run_for-front (Reasons node) script circuit answer right = record {
  outcome = right.outcome;
  runs = at_front (λ cut lines. Runs plain_reading cut (start_of circuit) lines right.outcome) script right.runs;
  explained = right.explained;
  texts = right.texts;
}
run_for-front Cover script circuit answer right = record {
  outcome = right.outcome;
  runs = at_front (λ cut lines. Runs plain_reading cut (start_of circuit) lines right.outcome) script right.runs;
  covered = at_front (λ cut lines. IsCoveredAt cut (start_of circuit) lines right.outcome.end right.outcome.refused answer.status answer.text)
      script right.covered;
  texts = right.texts;
}

-- what was told of the text that was read is told of the script, if what is right of a script's front is right of the script
pub told_front : (IsRight : List ℕ → Answer → Type 0) → ((script : List ℕ) (answer : Answer) → IsRight (front_of script) answer → IsRight script answer) →
    (known : Option (List ℕ → List ℕ)) (name text seen : List ℕ) (old new : Option (List ℕ)) (before after : List GroupTextData)
    (result : Result end.End Stop) → IfSome known (λ holds. text ≡ front_of (holds name)) → seen ≡ text →
    IsToldBy (IsRight seen) old new before after result → IfSome known (λ holds. IsToldBy (IsRight (holds name)) old new before after result)
told_front IsRight whole None name text seen old new before after result front same told = tt
told_front IsRight whole (Some holds) name text seen old new before after result front same told =
    told_by_as (IsRight seen) (IsRight (holds name)) old new before after result
    (λ answer right. whole (holds name) answer (subst (λ (bytes : List ℕ). IsRight bytes answer) (same ∙ front) right)) told

-- so it is of a run for a purpose
pub told_run_for : (known : Option (List ℕ → List ℕ)) (name : List ℕ) (purpose : Purpose) (circuit : CircuitData) (text seen : List ℕ) (old new : Option (List ℕ))
    (before after : List GroupTextData) (result : Result end.End Stop) → IfSome known (λ holds. text ≡ front_of (holds name)) → seen ≡ text →
    IsToldBy (IsRunFor purpose seen circuit) old new before after result →
    IfSome known (λ holds. IsToldBy (IsRunFor purpose (holds name) circuit) old new before after result)
told_run_for known name purpose circuit =
    told_front (λ script. IsRunFor purpose script circuit) (λ script answer right. run_for-front purpose script circuit answer right) known name

-- ---- the question for the run

pub told_asked : (known : Option (List ℕ → List ℕ)) (script : List ℕ) (purpose : Purpose) (circuit : CircuitData) (old new : Option (List ℕ))
    (before after : List GroupTextData) (result : Result end.End Stop) →
    IfSome known (λ holds. IsToldBy (IsRunFor purpose (holds script) circuit) old new before after result) →
    IfSome known (λ holds. IsToldBy (IsAnswerIn (run_seen purpose script) holds circuit) old new before after result)
told_asked known script Lines circuit old new before after result told = told
told_asked known script (Columns columns) circuit old new before after result told = told
told_asked known script (Reasons node) circuit old new before after result told = told
told_asked known script Cover circuit old new before after result told = told

pub starts_asked : (script : List ℕ) (purpose : Purpose) (old new : Started) → StartsAtMost old new script → ScriptStarts (run_seen purpose script) old new
starts_asked script Lines old new starts = starts
starts_asked script (Columns columns) old new starts = starts
starts_asked script (Reasons node) old new starts = starts
starts_asked script Cover old new starts = starts

pub scripts_asked : (script : List ℕ) (purpose : Purpose) → script ∷ [] ≡ scripts_of (run_seen purpose script)
scripts_asked script Lines = refl
scripts_asked script (Columns columns) = refl
scripts_asked script (Reasons node) = refl
scripts_asked script Cover = refl
