-- What the run from the start comes to is what the script comes to; one that is broken off at the start ends as a right one may.
use Rattle.std.proofs.Common.{Err, ap, ◌∙◌}
use Rattle.symbol_reading.specs.declared.reading.ScriptRead.{ScriptRead}
use Rattle.symbol_app.proofs.SymbolLemmas.{kept_faults, kept_refused, run_faults, run_refused, run_told, run_unread}
use Rattle.symbol_app.proofs.symbols.symbolic_read.Goals as goal

pub returns-in-Ok-clause-told : goal.returns-in-Ok-clause-told
returns-in-Ok-clause-told g c = c.run_session.ensures.told c.args.circuit c.in-Ok.ensures.starts

pub returns-in-Err-clause-told : goal.returns-in-Err-clause-told
returns-in-Err-clause-told g c =
    run_told c.args.read.bound (Err c.in-Err.fault) c.end_of_run.result c.end_of_run.ensures c.args.text.now c.args.circuit (g.S.Sink.written c.args.out)
    (g.S.Sink.written c.args.out) (g.A.Analyst.analysed c.args.analyst.now) (g.A.Analyst.analysed c.args.analyst.now)
    (ap (λ (read : ScriptRead). read.bound) c.requires.read)
    (c.in-Err.ensures.broken (g.S.Sink.written c.args.out) (g.A.Analyst.analysed c.args.analyst.now))

pub returns-in-Err-clause-no_read : goal.returns-in-Err-clause-no_read
returns-in-Err-clause-no_read g c = run_unread c.args.read.bound (Err c.in-Err.fault) c.end_of_run.result c.end_of_run.ensures

pub returns-in-Err-clause-write : goal.returns-in-Err-clause-write
returns-in-Err-clause-write g c =
    kept_faults (g.S.Sink.faults c.args.out) c.in-Err.fault c.in-Err.ensures.unwritten
    ∙ run_faults c.args.read.bound (Err c.in-Err.fault) c.end_of_run.result c.end_of_run.ensures (g.S.Sink.faults c.args.out)

pub returns-in-Err-clause-refused : goal.returns-in-Err-clause-refused
returns-in-Err-clause-refused g c =
    run_refused c.args.read.bound (Err c.in-Err.fault) c.end_of_run.result c.end_of_run.ensures (g.S.Sink.refusals c.args.out) (g.S.Sink.refusals c.args.out)
    (kept_refused (g.S.Sink.refusals c.args.out) c.in-Err.fault)
