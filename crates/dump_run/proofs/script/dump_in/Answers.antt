-- What was told of the run and of its end is what was written.
use Rattle.dump_run.proofs.EndLemmas.{first_rests, first_unrefused, part_written, run_written}
use Rattle.dump_run.proofs.script.dump_in.Goals as goal

pub run_lines-requires-clause-rests : goal.run_lines-requires-clause-rests
run_lines-requires-clause-rests g c = first_rests c.args.out.sheet c.args.session.core.state c.requires.first

pub run_lines-requires-clause-unrefused : goal.run_lines-requires-clause-unrefused
run_lines-requires-clause-unrefused g c = first_unrefused c.args.out.sheet c.requires.first

pub returns-in-Ok : goal.returns-in-Ok
returns-in-Ok g c =
    let written = run_written c.dumps_are_told.ensures c.args.text.now c.args.session.core (g.A.Analyst.analysed c.args.analyst.now)
    (g.A.Analyst.analysed c.run_lines.new.analyst) c.args.out.sheet c.requires.first c.run_lines.new.session.core c.run_lines.new.out.sheet c.in-Ok.end _
    c.finish.result.1 (rw c.in-Ok.is at c.run_lines.ensures.told) c.finish.ensures in
    record { told = written.told_by; no_read = written.no_read; write = written.faults; refused = written.refusals }

pub returns : goal.returns
returns g c =
    let written = part_written c.dumps_are_told.ensures c.args.text.now c.args.session.core (g.A.Analyst.analysed c.args.analyst.now)
    (g.A.Analyst.analysed c.run_lines.new.analyst) c.args.out.sheet c.requires.first c.run_lines.new.out.sheet _
    c.close.result.1 (rw c.in-Err.is at c.run_lines.ensures.told) c.close.ensures in
    record { told = written.told_by; no_read = written.no_read; write = written.faults; refused = written.refusals }
