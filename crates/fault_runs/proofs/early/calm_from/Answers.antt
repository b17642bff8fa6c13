-- Each line takes the number one step on; at the end it is that of the script.
use Rattle.std.proofs.Common.{ℕ, List, None, sym, ap, ◌∙◌, subst}
use Rattle.std.specs.List.{enumerate_from}
use Rattle.line_words.specs.Lines.{lines_of}
use Rattle.line_words.specs.Files as file
use Rattle.fault_meaning.proofs.FromLemmas.{HasScanned, scanned_first, scanned_on, scanned_last}
use Rattle.fault_runs.proofs.early.calm_from.Goals as goal

pub loop-line-init : goal.loop-line-init
loop-line-init c =
    let all = file.lines_in c.args.script.now in
    let first = c.into_iter-line-iterator.ensures.into_iter_gives ∙ c.lines-line-items.ensures.numbered
    ∙ ap (λ (front : List ℕ). enumerate_from 1 (lines_of front)) c.front.ensures in
    subst (λ left. HasScanned all left None) (sym first) (scanned_first c.args.script.now)

pub loop-line-preserved : goal.loop-line-preserved
loop-line-preserved c =
    let all = file.lines_in c.args.script.now in
    let scanned = subst (λ left. HasScanned all left c.loop-line.from) c.in-Some.ensures.steps c.loop-line.invariant in
    subst (HasScanned all c.next.new.self) (sym c.from_after-from.ensures)
    (scanned_on all (c.in-Some.line.number, c.in-Some.line.bytes.now) c.next.new.self c.loop-line.from c.in_ok-bearing.bearing scanned
    c.in_ok-bearing.ensures)

pub returns : goal.returns
returns c =
    let all = file.lines_in c.args.script.now in
    scanned_last c.args.script.now c.loop-line.from
    (subst (λ left. HasScanned all left c.loop-line.from) c.in-None.ensures.steps.0 c.loop-line.invariant)
