-- The status is the end's, and so are the counts and what was read.
use Rattle.std.proofs.Common.{sym, ap, ◌∙◌}
use Rattle.told_lines.specs.Printing.{PrinterData}
use Rattle.command_line.specs.Requests.{names_of, request_of}
use Rattle.cosmos_app.specs.Counts.{files_count, sink_count}
use Rattle.cosmos_app.proofs.EndLemmas.{answered_known}
use Rattle.run_ends.proofs.EndLemmas.{untouched_seen, read_cause}
use Rattle.cosmos_app.proofs.CountLemmas.{files_counted, sink_counted, refused_counted}
use Rattle.cosmos_app.proofs.WholeLemmas.{whole_all}
use Rattle.cosmos_app.proofs.top.run.Goals as goal

pub returns-clause-answer : goal.returns-clause-answer
returns-clause-answer g c =
    answered_known (g.F.Files.holds c.args.files.now) (names_of c.args.words.now) c.args.out.now.page.written c.answer.new.out.page.written
    (g.A.Analyst.analysed c.args.analyst.now) (g.A.Analyst.analysed c.answer.new.analyst) c.answer.result c.end_status.result c.end_status.ensures
    (untouched_seen (λ (printer : PrinterData). printer.page.written) c.args.out.now c.answer.new.out c.answer.result c.answer.ensures.untouched) c.answer.ensures.told

pub returns-clause-whole : goal.returns-clause-whole
returns-clause-whole g c =
    whole_all (g.F.Files.holds c.args.files.now) (request_of (names_of c.args.words.now)) (g.F.Files.taken c.args.files.now) (g.F.Files.taken c.answer.new.files)
    c.answer.result c.end_status.result c.end_status.ensures c.answer.ensures.whole

pub returns-clause-read : goal.returns-clause-read
returns-clause-read g c =
    c.answer.ensures.read ∙ files_counted (g.F.Files.faults c.args.files.now) c.answer.result
    ∙ ap (files_count (g.F.Files.faults c.args.files.now)) (sym c.end_status.ensures)

pub returns-clause-write : goal.returns-clause-write
returns-clause-write g c =
    c.answer.ensures.write ∙ sink_counted c.args.out.now.faults c.answer.result
    ∙ ap (sink_count c.args.out.now.faults) (sym c.end_status.ensures)

pub returns-clause-refused : goal.returns-clause-refused
returns-clause-refused g c =
    refused_counted c.args.out.now.refusals c.answer.new.out.refusals c.answer.result c.end_status.result c.end_status.ensures
    c.answer.ensures.refused

pub returns-clause-untouched : goal.returns-clause-untouched
returns-clause-untouched g c is = read_cause _ c.answer.result c.answer.ensures.untouched (sym c.end_status.ensures ∙ is)
