-- Each line takes the script one step on; at each exit what was told so far becomes what is told of all lines.
use Rattle.std.proofs.Common.{List, ℕ, Ok, inr, refl, sym, ap, ◌∙◌}
use Rattle.std.specs.List.{enumerate_from}
use Rattle.std.proofs.lemmas.Result.{err_from_is_err_and}
use Rattle.line_words.specs.Lines.{lines_of}
use Rattle.script_meaning.proofs.ShownLemmas.{shown_first, shown_to, shown_on, shown_end}
use Rattle.script_meaning.proofs.RunLemmas.{comes_first, comes_to, comes_on, halts_refused, halts_large, halts_stop, halts_end}
use Rattle.script_run.proofs.script.obey_seen.Goals as goal

pub loop-line-init : goal.loop-line-init
loop-line-init g c =
    let first = c.into_iter-line-iterator.ensures.into_iter_gives ∙ c.lines-line-items.ensures.numbered
    ∙ ap (λ (front : List ℕ). enumerate_from 1 (lines_of front)) c.front.ensures in
    record {
      come = comes_to (comes_first c.requires.ready) (sym first);
      shown = shown_to shown_first (sym first);
      knows = c.requires.knows;
      faults = refl;
      refusals = refl;
    }

pub returns-in_err-run_seen-clause-told : goal.returns-in_err-run_seen-clause-told
returns-in_err-run_seen-clause-told g c =
    let come = comes_to c.loop-line.invariant.come c.in-Some.ensures.steps in
    let p = err_from_is_err_and c.from_residual.result c.from_residual.ensures.1 in
    rw p.1
    (inr (halts_stop g.L.Lines.part c.loop-line.session.core come (g.met.R.LineReader.sound c.args.reader.now) c.run_seen.new.session.core (g.L.Lines.heard c.run_seen.new.out)
    (g.A.Analyst.analysed c.run_seen.new.analyst) c.in_err-run_seen.field-0.0 c.in_err-run_seen.ensures.turn c.cut_line-cut.ensures))

pub loop-line-preserved : goal.loop-line-preserved
loop-line-preserved g c = record {
  come = comes_on g.L.Lines.part c.loop-line.session.core (comes_to c.loop-line.invariant.come c.in-Some.ensures.steps) c.run_seen.new.session.core
      (g.L.Lines.heard c.run_seen.new.out) (g.A.Analyst.analysed c.run_seen.new.analyst) c.in_ok-run_seen.ensures.turn c.in-Accepted.is;
  shown = shown_on g.L.Lines.hear g.L.Lines.part c.loop-line.session.core c.run_seen.new.session.core (g.L.Lines.heard c.loop-line.out)
      (g.L.Lines.heard c.run_seen.new.out) (g.A.Analyst.analysed c.loop-line.analyst) (g.A.Analyst.analysed c.run_seen.new.analyst)
      (shown_to c.loop-line.invariant.shown c.in-Some.ensures.steps) (g.O.Observer.seen c.run_seen.new.onlooker)
      (c.in_ok-run_seen.ensures.seen (ap Ok c.in-Accepted.is)) c.in_ok-run_seen.ensures.turn c.in-Accepted.is;
  knows = c.in_ok-run_seen.ensures.knows (ap Ok c.in-Accepted.is);
  faults = c.in_ok-run_seen.ensures.write ∙ c.loop-line.invariant.faults;
  refusals = c.in_ok-run_seen.ensures.refused ∙ c.loop-line.invariant.refusals;
}

pub returns-in-Refused-clause-told : goal.returns-in-Refused-clause-told
returns-in-Refused-clause-told g c =
    halts_refused g.L.Lines.part c.loop-line.session.core (comes_to c.loop-line.invariant.come c.in-Some.ensures.steps) c.run_seen.new.session.core
    (g.L.Lines.heard c.run_seen.new.out) (g.A.Analyst.analysed c.run_seen.new.analyst) c.in_ok-run_seen.ensures.turn c.in-Refused.is
    c.cut_line-cut.ensures

pub returns-in-TooLarge-clause-told : goal.returns-in-TooLarge-clause-told
returns-in-TooLarge-clause-told g c =
    halts_large g.L.Lines.part c.loop-line.session.core (comes_to c.loop-line.invariant.come c.in-Some.ensures.steps) c.run_seen.new.session.core
    (g.L.Lines.heard c.run_seen.new.out) (g.A.Analyst.analysed c.run_seen.new.analyst) c.in_ok-run_seen.ensures.turn c.in-TooLarge.is
    c.cut_line-cut.ensures

pub returns-clause-told : goal.returns-clause-told
returns-clause-told g c = halts_end (comes_to c.loop-line.invariant.come c.in-None.ensures.steps.0) c.cut_line-cut.ensures

pub returns-clause-seen : goal.returns-clause-seen
returns-clause-seen g c =
    λ ended. shown_end (shown_to c.loop-line.invariant.shown c.in-None.ensures.steps.0) c.cut_line-cut.ensures
