-- The bench is made of the circuit, the script and what the session keeps.
use Rattle.std.proofs.Common.{All, inl, refl, sym, subst}
use Rattle.std.proofs.lemmas.Result.{err_from_is_err_and}
use Rattle.fault_sim.specs.Faults.{IsFault}
use Rattle.run_ends.specs.Ends.{IsToldBy}
use Rattle.fault_meaning.specs.Runnings.{BenchData, TellsJudged}
use Rattle.fault_runs.proofs.judging.judge_beside.Goals as goal

pub judge_each-requires-clause-faults : goal.judge_each-requires-clause-faults
judge_each-requires-clause-faults g c =
    subst (λ (bench : BenchData). All (λ listed. IsFault bench.start listed.fault) c.args.faults.now) (sym c.in_ok-bench.ensures) c.requires.faults

pub returns-in_err-bench-clause-told : goal.returns-in_err-bench-clause-told
returns-in_err-bench-clause-told g c =
    let stop = err_from_is_err_and c.from_residual.result c.from_residual.ensures.1 in
    rw stop.1 (inl refl)

pub returns-clause-told : goal.returns-clause-told
returns-clause-told g c =
    subst (λ (bench : BenchData). IsToldBy (TellsJudged bench.start bench.script c.args.good.now bench.kept c.args.faults.now)
    (g.S.Sink.written c.args.out.now) (g.S.Sink.written c.judge_each.new.out) (g.A.Analyst.analysed c.args.analyst.now)
    (g.A.Analyst.analysed c.judge_each.new.analyst) c.judge_each.result) c.in_ok-bench.ensures c.judge_each.ensures.told
