-- The status is the end's, and so are the counts and what was read.
use Rattle.std.proofs.Common.{sym, ap, ◌∙◌}
use Rattle.run_ends.proofs.EndLemmas.{read_cause}
use Rattle.command_line.specs.Requests.{Simulate, over}
use Rattle.cosmos_app.specs.Counts.{files_count, sink_count}
use Rattle.cosmos_app.proofs.CountLemmas.{files_counted, sink_counted, refused_counted}
use Rattle.cosmos_app.proofs.DumpLemmas.{told_dump}
use Rattle.cosmos_app.proofs.WholeLemmas.{whole_all}
use Rattle.cosmos_app.proofs.dumping.dump.Goals as goal

pub returns-clause-answer : goal.returns-clause-answer
returns-clause-answer g c =
    told_dump (g.F.Files.holds c.args.files.now) c.args.net.now c.args.script.now (g.S.Sink.written c.args.out) (g.S.Sink.written c.dump_named-sink.result.0)
    (g.A.Analyst.analysed c.args.analyst.now) (g.A.Analyst.analysed c.dump_named-sink.new.analyst) c.dump_named-sink.result.1 c.end_status.result
    c.end_status.ensures c.dump_named-sink.ensures.told

pub returns-clause-whole : goal.returns-clause-whole
returns-clause-whole g c =
    whole_all (g.F.Files.holds c.args.files.now) (over c.args.net.now (Simulate c.args.script.now)) (g.F.Files.taken c.args.files.now)
    (g.F.Files.taken c.dump_named-sink.new.files) c.dump_named-sink.result.1 c.end_status.result c.end_status.ensures c.dump_named-sink.ensures.whole

pub returns-clause-read : goal.returns-clause-read
returns-clause-read g c =
    c.dump_named-sink.ensures.read ∙ files_counted (g.F.Files.faults c.args.files.now) c.dump_named-sink.result.1
    ∙ ap (files_count (g.F.Files.faults c.args.files.now)) (sym c.end_status.ensures)

pub returns-clause-write : goal.returns-clause-write
returns-clause-write g c =
    c.dump_named-sink.ensures.write ∙ sink_counted (g.S.Sink.faults c.args.out) c.dump_named-sink.result.1
    ∙ ap (sink_count (g.S.Sink.faults c.args.out)) (sym c.end_status.ensures)

pub returns-clause-refused : goal.returns-clause-refused
returns-clause-refused g c =
    refused_counted (g.S.Sink.refusals c.args.out) (g.S.Sink.refusals c.dump_named-sink.result.0) c.dump_named-sink.result.1 c.end_status.result
    c.end_status.ensures c.dump_named-sink.ensures.refused

pub returns-clause-untouched : goal.returns-clause-untouched
returns-clause-untouched g c is = read_cause _ c.dump_named-sink.result.1 c.dump_named-sink.ensures.untouched (sym c.end_status.ensures ∙ is)
