-- A script in columns, of which there is one at least, has one answer: in each column it runs in one way.
use Rattle.std.proofs.Common.{◌≡◌, ℕ, ◌<◌, true, List, ◌++◌, Option, sym, ap, ◌∙◌}
use Rattle.group_text.specs.Texts.{GroupTextData}
use Rattle.told_lines.specs.Lines.{Told}
use Rattle.told_lines.specs.Printing.{text_printed}
use Rattle.run_ends.specs.Answers.{Answer}
use Rattle.script_meaning.specs.Runs.{RefusedLine, Outcome, refusal_text}
use Rattle.script_meaning.proofs.UniqueRuns.{runs_unique}
use Rattle.session_meaning.proofs.RowLemmas.{rows_unique}
use Rattle.column_run.specs.ColumnAnswers.{reading_in, status_ended}
use Rattle.column_run.specs.Laws.{ColumnAnswersAreUnique}

pub columns_unique : ColumnAnswersAreUnique
columns_unique columns cut start lines answer other some one two =
    let same : (column : ℕ) → column < columns → one.runs.outcome column ≡ two.runs.outcome column = λ column inside.
    runs_unique (reading_in columns column) cut (start column) lines (one.runs.outcome column) (two.runs.outcome column) (one.runs.runs column inside)
    (two.runs.runs column inside) in
    let texts : answer.texts ≡ other.texts =
    sym (one.runs.analysed 0 some) ∙ ap (λ (outcome : Outcome). outcome.texts) (same 0 some) ∙ two.runs.analysed 0 some in
    let refused : one.refused ≡ two.refused =
    sym (one.runs.ended 0 some) ∙ ap (λ (outcome : Outcome). outcome.refused) (same 0 some) ∙ two.runs.ended 0 some in
    let rows : one.rows ≡ two.rows =
    rows_unique some (λ column inside. ap (λ (outcome : Outcome). outcome.lines) (same column inside)) one.runs.rows two.runs.rows in
    let told : List Told → Option RefusedLine → List GroupTextData → Answer =
    λ rows refused texts. record { status = status_ended refused; text = text_printed true rows ++ refusal_text refused; texts = texts } in
    one.told ∙ ap (λ (lines : List Told). told lines one.refused answer.texts) rows
    ∙ ap (λ (stopped : Option RefusedLine). told two.rows stopped answer.texts) refused ∙ ap (told two.rows two.refused) texts ∙ sym two.told
