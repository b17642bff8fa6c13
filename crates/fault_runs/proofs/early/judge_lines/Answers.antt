-- Each line takes the run one step on; at each exit what was compared so far is what the whole run is judged by.
use Rattle.std.proofs.Common.{◌≡◌, [], ◌+◌, drop, length, sym, ap, ◌∙◌, subst, arith}
use Rattle.std.proofs.Math.ListN.{drop_of_length-le}
use Rattle.std.proofs.lemmas.List.{length-map}
use Rattle.line_words.specs.Files as file
use Rattle.told_verdicts.specs.Comparing.{CompareData, compared}
use Rattle.fault_sim.specs.Masks.{masked_reading}
use Rattle.script_meaning.proofs.RunLemmas.{HasCome, comes_first, comes_to}
use Rattle.fault_meaning.proofs.PlaceLemmas.{placed_first}
use Rattle.fault_meaning.proofs.EndLemmas.{ends_here, goes_past, ends_whole}
use Rattle.fault_runs.specs.Lines.{line_read}
use Rattle.fault_runs.proofs.LineLemmas.{line_at}
use Rattle.fault_runs.proofs.early.judge_lines.Goals as goal

pub loop-line-init : goal.loop-line-init
loop-line-init g c = record {
  come = comes_first c.requires.ready;
  placed = placed_first c.args.calm_from c.args.script.now c.args.session.now.core c.requires.calm;
}

pub run_read-requires : goal.run_read-requires
run_read-requires g c =
    let at = line_at c.args.script.now c.args.read.now c.loop-line.line-index c.line-item.result c.requires.read c.loop-line-test.true c.line-item.is in
    (at.text, at.asks)

pub returns-in-Some : goal.returns-in-Some
returns-in-Some g c =
    let at = line_at c.args.script.now c.args.read.now c.loop-line.line-index c.line-item.result c.requires.read c.loop-line-test.true c.line-item.is in
    let come = subst (λ (begun : CompareData). HasCome compared (masked_reading c.args.stuck) c.cut_line-cut.result c.args.session.now.core
    (file.lines_in c.args.script.now) begun (g.A.Analyst.analysed c.args.analyst.now) c.loop-line.session.core
    (drop c.loop-line.line-index (file.lines_in c.args.script.now)) c.loop-line.out
    (g.A.Analyst.analysed c.loop-line.analyst)) c.new-out.ensures c.loop-line.invariant.come in
    ends_here c.args.stuck c.args.script.now c.cut_line-cut.ensures c.args.good.now c.rows-good_rows.ensures (λ _ _ _. ⊥) c.loop-line.session.core
    come at.steps c.run_read.new.session.core c.run_read.new.out (g.A.Analyst.analysed c.run_read.new.analyst)
    c.args.calm_from c.loop-line.invariant.placed c.is_from-calm.result c.in-Ok.turn (c.in-Ok.ensures at.text at.asks) c.verdict_after-found.result
    c.verdict_after-found.ensures c.in-Some.verdict c.in-Some.is c.is_from-calm.ensures

pub loop-line-preserved : goal.loop-line-preserved
loop-line-preserved g c =
    let all = file.lines_in c.args.script.now in
    let asked = g.A.Analyst.analysed c.args.analyst.now in
    let start = c.args.session.now.core in
    let further = g.A.Analyst.analysed c.run_read.new.analyst in
    let at = line_at c.args.script.now c.args.read.now c.loop-line.line-index c.line-item.result c.requires.read c.loop-line-test.true c.line-item.is in
    let come = subst (λ (begun : CompareData). HasCome compared (masked_reading c.args.stuck) c.cut_line-cut.result start all begun asked
    c.loop-line.session.core (drop c.loop-line.line-index all) c.loop-line.out (g.A.Analyst.analysed c.loop-line.analyst)) c.new-out.ensures
    c.loop-line.invariant.come in
    let past = goes_past c.args.stuck c.args.script.now c.cut_line-cut.ensures c.args.good.now c.rows-good_rows.ensures (λ _ _ _. ⊥) c.loop-line.session.core
    come at.steps c.run_read.new.session.core c.run_read.new.out further c.args.calm_from c.loop-line.invariant.placed c.is_from-calm.result
    c.in-Ok.turn (c.in-Ok.ensures at.text at.asks) c.verdict_after-found.result c.verdict_after-found.ensures c.in-None.is in
    record {
      come = subst (λ (begun : CompareData). HasCome compared (masked_reading c.args.stuck) c.cut_line-cut.result start all begun asked
          c.run_read.new.session.core (drop (c.loop-line.line-index + 1) all) c.run_read.new.out further) (sym c.new-out.ensures) past.0;
      placed = past.1;
    }

pub returns : goal.returns
returns g c =
    let all = file.lines_in c.args.script.now in
    let count : length c.args.read.now ≡ length all = ap length c.requires.read ∙ length-map all line_read in
    let none : drop c.loop-line.line-index all ≡ [] =
    drop_of_length-le all (omega (arith, count, c.loop-line-test.false)) in
    let come = subst (λ (begun : CompareData). HasCome compared (masked_reading c.args.stuck) c.cut_line-cut.result c.args.session.now.core
    all begun (g.A.Analyst.analysed c.args.analyst.now) c.loop-line.session.core (drop c.loop-line.line-index all) c.loop-line.out
    (g.A.Analyst.analysed c.loop-line.analyst)) c.new-out.ensures c.loop-line.invariant.come in
    rw c.verdict.ensures
    (ends_whole c.args.stuck c.args.script.now c.cut_line-cut.ensures c.args.good.now c.rows-good_rows.ensures (comes_to come none))
