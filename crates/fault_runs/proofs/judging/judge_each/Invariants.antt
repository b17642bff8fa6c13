use Rattle.std.proofs.Common.{◌≡◌}
use Rattle.fault_meaning.proofs.JudgingLemmas.{HasJudged}
use Rattle.fault_runs.proofs.judging.judge_each.Given as goal

abbrev pub invariant-loop-listed : goal.invariant-loop-listed
invariant-loop-listed g l = record {
  come : HasJudged l.fn.bench.start l.fn.bench.script l.good l.fn.bench.kept l.listed-items (g.S.Sink.written l.fn.out) (g.A.Analyst.analysed l.fn.analyst)
      l.bench l.listed-index (g.S.Sink.written l.out) (g.A.Analyst.analysed l.analyst) l.counts;
  faults : g.S.Sink.faults l.out ≡ g.S.Sink.faults l.fn.out;
  refusals : g.S.Sink.refusals l.out ≡ g.S.Sink.refusals l.fn.out;
}
