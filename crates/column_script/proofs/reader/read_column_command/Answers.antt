use Rattle.std.proofs.Common.{◌≡◌, ◌<◌, ℕ, Ok, Err, rules, sym, ◌∙◌}
use Rattle.column_script.specs.Columns.{column_reading_of}
use Rattle.column_script.proofs.ColumnLemmas.{valued_line, values_formed, shared_formed}
use Rattle.column_script.proofs.reader.read_column_command.Goals as goal

pub returns-in_ok-list-in-Valued-clause-ok : goal.returns-in_ok-list-in-Valued-clause-ok
returns-in_ok-list-in-Valued-clause-ok c = λ column inside.
    valued_line c.args.columns c.args.bytes.now c.in-Some.verb.now c.next.new.self
    c.in-Ok.ensures.fault (sym c.is_comment.ensures.test ∙ c.if-is_comment.false) (sym c.words-words.ensures.parts ∙ c.in-Some.ensures.steps)
    c.in-Valued.command (sym c.in-Valued.ensures) (Ok c.in_ok-list-in-Valued.list) (sym c.in_ok-list-in-Valued.was ∙ c.in_ok-read_values-in-Valued.ensures) column inside

pub returns-in_err-list-in-Valued-clause-refused : goal.returns-in_err-list-in-Valued-clause-refused
returns-in_err-list-in-Valued-clause-refused c =
    let refused : (column : ℕ) → column < c.args.columns →
    column_reading_of c.args.columns column c.args.bytes.now ≡ Err c.in_err-list-in-Valued.field-0.0 =
    valued_line c.args.columns c.args.bytes.now c.in-Some.verb.now c.next.new.self
    c.in-Ok.ensures.fault (sym c.is_comment.ensures.test ∙ c.if-is_comment.false) (sym c.words-words.ensures.parts ∙ c.in-Some.ensures.steps)
    c.in-Valued.command (sym c.in-Valued.ensures) (Err c.in_err-list-in-Valued.field-0.0) (sym c.in_err-list-in-Valued.was ∙ c.in_ok-read_values-in-Valued.ensures) in
    search rules

pub returns-in_ok-list-in-Valued-clause-formed : goal.returns-in_ok-list-in-Valued-clause-formed
returns-in_ok-list-in-Valued-clause-formed c =
    values_formed c.args.columns c.args.bytes.now c.in-Some.verb.now c.next.new.self
    c.in-Ok.ensures.fault (sym c.is_comment.ensures.test ∙ c.if-is_comment.false) (sym c.words-words.ensures.parts ∙ c.in-Some.ensures.steps)
    c.in_ok-list-in-Valued.list (sym c.in_ok-list-in-Valued.was ∙ c.in_ok-read_values-in-Valued.ensures)

pub returns-in_ok-read_command-in-Shared-clause-formed : goal.returns-in_ok-read_command-in-Shared-clause-formed
returns-in_ok-read_command-in-Shared-clause-formed c =
    shared_formed c.args.columns c.args.bytes.now c.in-Some.verb.now c.next.new.self
    c.in-Ok.ensures.fault (sym c.is_comment.ensures.test ∙ c.if-is_comment.false) (sym c.words-words.ensures.parts ∙ c.in-Some.ensures.steps)
    (sym c.in-Shared.ensures) c.in_ok-read_command-in-Shared.field-0 c.map.result c.in_ok-read_command-in-Shared.ensures.ok
    c.in_ok-read_command-in-Shared.ensures.formed c.map.ensures.cases
