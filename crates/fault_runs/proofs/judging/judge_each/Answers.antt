-- Each fault takes the verdicts one step on; at each exit what was written so far becomes what is told of all.
use Rattle.std.proofs.Common.{inl, length, refl, ap, ◌∙◌, arith}
use Rattle.std.proofs.lemmas.Result.{err_from_is_err_and}
use Rattle.fault_meaning.proofs.JudgingLemmas.{judged_first, stopped_before, few_counted, fault_here, judged_on, stopped_in_line, judged_all, stopped_at_counts}
use Rattle.fault_runs.proofs.judging.judge_each.Goals as goal

pub loop-listed-init : goal.loop-listed-init
loop-listed-init g c = record {
  come = judged_first refl refl refl c.new-counts.ensures;
  faults = refl;
  refusals = refl;
}

pub returns-in_err-line-clause-told : goal.returns-in_err-line-clause-told
returns-in_err-line-clause-told g c =
    let stop = err_from_is_err_and c.from_residual.result c.from_residual.ensures.1 in
    rw stop.1 (inl refl)

pub judge-requires : goal.judge-requires
judge-requires g c =
    fault_here c.requires.circuit c.items-listed-items.ensures c.requires.faults c.loop-listed.invariant.come c.loop-listed-test.true

pub returns-in_err-verdict-clause-told : goal.returns-in_err-verdict-clause-told
returns-in_err-verdict-clause-told g c =
    let stop = err_from_is_err_and c.from_residual-in_err-verdict.result c.from_residual-in_err-verdict.ensures.1 in
    rw stop.1 (stopped_before c.requires.circuit c.items-listed-items.ensures c.requires.faults c.loop-listed.invariant.come refl)

pub add-requires : goal.add-requires
add-requires g c =
    let few = few_counted c.requires.circuit c.items-listed-items.ensures c.requires.faults c.loop-listed.invariant.come c.loop-listed-test.true in
    omega (arith, few)

pub returns-in_err-send_verdict-clause-told : goal.returns-in_err-send_verdict-clause-told
returns-in_err-send_verdict-clause-told g c =
    let stop = err_from_is_err_and c.from_residual-in_err-send_verdict.result c.from_residual-in_err-send_verdict.ensures.1 in
    rw stop.1
    (stopped_in_line c.requires.circuit c.items-listed-items.ensures c.requires.faults c.loop-listed.invariant.come c.loop-listed-test.true
    c.judge.new.self (g.A.Analyst.analysed c.judge.new.analyst) c.in_ok-verdict.ensures.verdict (g.S.Sink.written c.send_verdict.new.out)
    c.in_err-send_verdict.ensures.part)

pub loop-listed-preserved : goal.loop-listed-preserved
loop-listed-preserved g c = record {
  come = judged_on c.requires.circuit c.items-listed-items.ensures c.requires.faults c.loop-listed.invariant.come c.loop-listed-test.true
      c.judge.new.self (g.A.Analyst.analysed c.judge.new.analyst) c.in_ok-verdict.ensures.verdict c.add.ensures c.in_ok-send_verdict.ensures.ok;
  faults = c.in_ok-send_verdict.ensures.write ∙ c.loop-listed.invariant.faults;
  refusals = c.in_ok-send_verdict.ensures.refused ∙ c.loop-listed.invariant.refusals;
}

pub returns-in_err-send_counts-clause-told : goal.returns-in_err-send_counts-clause-told
returns-in_err-send_counts-clause-told g c =
    let stop = err_from_is_err_and c.from_residual-in_err-send_counts.result c.from_residual-in_err-send_counts.ensures.1 in
    rw stop.1
    (stopped_at_counts c.items-listed-items.ensures c.loop-listed.invariant.come
    (omega (arith, c.loop-listed-test.false, c.loop-listed.auto.listed-index-end)) (g.S.Sink.written c.send_counts.new.out) (length c.items.result.now)
    (ap length c.items.ensures) c.in_err-send_counts.ensures.part)

pub returns-clause-told : goal.returns-clause-told
returns-clause-told g c =
    judged_all c.items-listed-items.ensures c.loop-listed.invariant.come
    (omega (arith, c.loop-listed-test.false, c.loop-listed.auto.listed-index-end)) (length c.items.result.now) (ap length c.items.ensures)
    c.in_ok-send_counts.ensures.ok
