-- A line is read, or it ends the reading.
use Rattle.std.proofs.Common.{◌∙◌, ℕ, List, Option, ap, subst}
use Rattle.std.specs.List.{enumerate_from}
use Rattle.line_words.specs.Files as file
use Rattle.line_words.specs.Lines.{lines_of}
use Rattle.symbol_meaning.specs.Scripts.{asked_lines}
use Rattle.symbol_reading.specs.Reading.{rest_read, Reads}
use Rattle.symbol_reading.proofs.ReadingLemmas.{ends_before, goes_on, so_far_to, stops_at}
use Rattle.symbol_reading.proofs.reading.read_lines.Goals as goal

pub loop-line-init : goal.loop-line-init
loop-line-init c =
    let first = c.into_iter-line-iterator.ensures.into_iter_gives ∙ c.lines-line-items.ensures.numbered
    ∙ ap (λ (front : List ℕ). enumerate_from 1 (lines_of front)) c.front.ensures in
    ap (λ (lines : List (ℕ × List ℕ)). rest_read c.args.names.now c.args.bound.now (asked_lines c.args.quiet c.cut_line-cut.result lines)) first

pub loop-line-preserved : goal.loop-line-preserved
loop-line-preserved c =
    goes_on _ _ _ _ _ _ _ _ _ (so_far_to _ _ _ _ _ _ _ c.in-Some.ensures.steps c.loop-line.invariant)
    (subst (Reads c.args.quiet c.cut_line-cut.result c.loop-line.names c.loop-line.bound _ c.read_line.new.names c.read_line.new.bound) c.in-Line.is
    c.in_ok-read_line.ensures)

pub returns-in-End : goal.returns-in-End
returns-in-End c =
    ends_before c.args.quiet c.cut_line-cut.result c.loop-line.names c.read_line.new.names c.loop-line.bound c.read_line.new.bound
    (c.in-Some.line.number, c.in-Some.line.bytes.now) c.next.new.self _ (so_far_to _ _ _ _ _ _ _ c.in-Some.ensures.steps c.loop-line.invariant)
    (subst (Reads c.args.quiet c.cut_line-cut.result c.loop-line.names c.loop-line.bound _ c.read_line.new.names c.read_line.new.bound) c.in-End.is
    c.in_ok-read_line.ensures)
    ∙ ap (λ (cut : Option ℕ). rest_read c.args.names.now c.args.bound.now (asked_lines c.args.quiet cut (file.lines_in c.args.text.now))) c.cut_line-cut.ensures

pub returns-in-Stop : goal.returns-in-Stop
returns-in-Stop c =
    stops_at c.args.quiet c.cut_line-cut.result c.loop-line.names c.read_line.new.names c.loop-line.bound c.read_line.new.bound
    (c.in-Some.line.number, c.in-Some.line.bytes.now) c.next.new.self _ c.in-Stop.fault (so_far_to _ _ _ _ _ _ _ c.in-Some.ensures.steps c.loop-line.invariant)
    (subst (Reads c.args.quiet c.cut_line-cut.result c.loop-line.names c.loop-line.bound _ c.read_line.new.names c.read_line.new.bound) c.in-Stop.is
    c.in_ok-read_line.ensures)
    ∙ ap (λ (cut : Option ℕ). rest_read c.args.names.now c.args.bound.now (asked_lines c.args.quiet cut (file.lines_in c.args.text.now))) c.cut_line-cut.ensures

pub returns : goal.returns
returns c =
    so_far_to _ _ _ _ _ _ _ c.in-None.ensures.steps.0 c.loop-line.invariant
    ∙ ap (λ (cut : Option ℕ). rest_read c.args.names.now c.args.bound.now (asked_lines c.args.quiet cut (file.lines_in c.args.text.now))) c.cut_line-cut.ensures
