-- Each line takes the script one step on; at each exit what was told so far becomes what is told of all lines.
use Rattle.std.proofs.Common.{List, ℕ, sym, ap, ◌∙◌}
use Rattle.std.specs.List.{enumerate_from}
use Rattle.std.proofs.lemmas.Result.{err_from_is_err_and}
use Rattle.line_words.specs.Lines.{lines_of}
use Rattle.dump_run.proofs.RunLemmas.{comes_first, comes_to, comes_on, halts_refused, halts_large, halts_stop, halts_end}
use Rattle.dump_run.proofs.script.obey_dumped.Goals as goal

pub loop-line-init : goal.loop-line-init
loop-line-init g c =
    let first = c.into_iter-line-iterator.ensures.into_iter_gives ∙ c.lines-line-items.ensures.numbered
    ∙ ap (λ (front : List ℕ). enumerate_from 1 (lines_of front)) c.front.ensures in
    record { come = comes_to (comes_first c.requires.ready) (sym first); rests = c.requires.rests }

pub returns-in_err-dump_line-clause-told : goal.returns-in_err-dump_line-clause-told
returns-in_err-dump_line-clause-told g c =
    let come = comes_to c.loop-line.invariant.come c.in-Some.ensures.steps in
    let p = err_from_is_err_and c.from_residual.result c.from_residual.ensures.1 in
    rw p.1
    (halts_stop c.loop-line.session.core come c.dump_line.new.session.core c.dump_line.new.out.sheet (g.A.Analyst.analysed c.dump_line.new.analyst)
    c.in_err-dump_line.field-0.0 c.in_err-dump_line.ensures.turn c.cut_line-cut.ensures)

pub loop-line-preserved : goal.loop-line-preserved
loop-line-preserved g c = record {
  come = comes_on c.loop-line.session.core (comes_to c.loop-line.invariant.come c.in-Some.ensures.steps) c.dump_line.new.session.core c.dump_line.new.out.sheet
      (g.A.Analyst.analysed c.dump_line.new.analyst) c.in_ok-dump_line.ensures.turn c.in-Accepted.is;
  rests = c.in_ok-dump_line.ensures.rests;
}

pub returns-in-Refused-clause-told : goal.returns-in-Refused-clause-told
returns-in-Refused-clause-told g c =
    halts_refused c.loop-line.session.core (comes_to c.loop-line.invariant.come c.in-Some.ensures.steps) c.dump_line.new.session.core
    c.dump_line.new.out.sheet (g.A.Analyst.analysed c.dump_line.new.analyst) c.in_ok-dump_line.ensures.turn c.in-Refused.is c.cut_line-cut.ensures

pub returns-in-TooLarge-clause-told : goal.returns-in-TooLarge-clause-told
returns-in-TooLarge-clause-told g c =
    halts_large c.loop-line.session.core (comes_to c.loop-line.invariant.come c.in-Some.ensures.steps) c.dump_line.new.session.core
    c.dump_line.new.out.sheet (g.A.Analyst.analysed c.dump_line.new.analyst) c.in_ok-dump_line.ensures.turn c.in-TooLarge.is c.cut_line-cut.ensures

pub returns-clause-told : goal.returns-clause-told
returns-clause-told g c = halts_end (comes_to c.loop-line.invariant.come c.in-None.ensures.steps.0) c.cut_line-cut.ensures
