-- What was told of the text that was read is told of the script.
use Rattle.ports.proofs.ResultLemmas.{at_ok}
use Rattle.cosmos_app.proofs.PurposeLemmas.{told_run_for}
use Rattle.circuit_files.proofs.WholeLemmas.{whole_file}
use Rattle.cosmos_app.proofs.top.run_script.Goals as goal

pub returns-clause-told : goal.returns-clause-told
returns-clause-told g c =
    told_run_for (g.F.Files.holds c.args.files.now) c.args.script.now c.args.purpose c.args.circuit c.in_ok-text.text.items c.deref.result.now
    c.args.out.now.page.written c.run_text.new.out.page.written (g.A.Analyst.analysed c.args.analyst.now)
    (g.A.Analyst.analysed c.run_text.new.analyst) c.run_text.result
    c.in_ok-text.ensures.bytes c.deref.ensures.value c.run_text.ensures.told

pub returns-clause-whole : goal.returns-clause-whole
returns-clause-whole g c =
    at_ok c.run_text.result
    (whole_file (g.F.Files.holds c.args.files.now) c.args.script.now c.in_ok-text.text.items (g.F.Files.taken c.args.files.now)
    (g.F.Files.taken c.read_file.new.files) c.in_ok-text.ensures.bytes c.in_ok-text.ensures.whole)
