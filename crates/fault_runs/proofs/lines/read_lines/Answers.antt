-- One line more is read; in the end all are.
use Rattle.std.proofs.Common.{ℕ, List, sym, ap, ◌∙◌, subst}
use Rattle.std.specs.List.{enumerate_from}
use Rattle.line_words.specs.Lines.{lines_of}
use Rattle.line_words.specs.Files as file
use Rattle.fault_runs.specs.declared.lines.ReadLine.{ReadLine}
use Rattle.fault_runs.proofs.LineLemmas.{HasRead, read_first, read_last, read_on}
use Rattle.fault_runs.proofs.lines.read_lines.Goals as goal

pub loop-line-init : goal.loop-line-init
loop-line-init c =
    let all = file.lines_in c.args.script.now in
    let first = c.into_iter-line-iterator.ensures.into_iter_gives ∙ c.lines-line-items.ensures.numbered
    ∙ ap (λ (front : List ℕ). enumerate_from 1 (lines_of front)) c.front.ensures in
    subst (λ left. HasRead all left c.new-read.result) (sym first) (subst (λ (read : List ReadLine). HasRead all all read) (sym c.new-read.ensures) (read_first all))

pub loop-line-preserved : goal.loop-line-preserved
loop-line-preserved c =
    read_on (file.lines_in c.args.script.now) c.loop-line.line-iterator c.next.new.self (c.in-Some.line.number, c.in-Some.line.bytes.now)
    c.loop-line.read c.push.new.self c.in_ok-asked.asked c.in-Some.ensures.steps c.loop-line.invariant c.in_ok-asked.ensures c.in_ok-push.ensures.ok

pub returns : goal.returns
returns c = read_last c.args.script.now c.loop-line.line-iterator c.loop-line.read c.in-None.ensures.steps.0 c.loop-line.invariant
