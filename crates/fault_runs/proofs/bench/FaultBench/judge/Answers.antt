-- The session stands at the start with what the last one keeps, so the verdict on a run in it is one on a run of the bench.
use Rattle.std.proofs.Common.{List, Some, refl, sym, ap, subst, ◌∙◌}
use Rattle.session_meaning.specs.Sessions.{SessionData}
use Rattle.fault_meaning.specs.Runnings.{BenchData}
use Rattle.fault_meaning.proofs.BenchLemmas.{bench_judges}
use Rattle.fault_runs.specs.declared.lines.ReadLine.{ReadLine}
use Rattle.fault_runs.specs.Lines.{AreRead}
use Rattle.fault_runs.proofs.bench.FaultBench.judge.Goals as goal

pub judge_under-told-requires-clause-read : goal.judge_under-told-requires-clause-read
judge_under-told-requires-clause-read g c =
    subst (λ (read : List ReadLine). AreRead c.self.inside.script.now read) (sym c.items.ensures) c.self.invariant.1

pub returns-clause-verdict : goal.returns-clause-verdict
returns-clause-verdict g c =
    let end = c.judge_under-told.new.session.core in
    let start = ap (λ (bench : BenchData). bench.start) c.self.view_is ∙ c.in_ok-session.ensures.start in
    let script = ap (λ (bench : BenchData). bench.script) c.self.view_is ∙ c.in_ok-session.ensures.script in
    let kept = ap (λ (session : SessionData). session.kept) c.in_ok-session.ensures.ok in
    bench_judges c.args.self.now (record { start = c.self.inside.start.now; script = c.self.inside.script.now; kept = end.kept }) end (Some c.args.fault)
    (g.A.Analyst.analysed c.args.analyst.now) (g.A.Analyst.analysed c.judge_under-told.new.analyst) start script kept start script refl
    c.args.good.now c.judge_under-told.result c.judge_under-told.ensures
