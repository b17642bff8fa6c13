-- What was told of the text that was read is told of the script.
use Rattle.ports.proofs.ResultLemmas.{at_ok}
use Rattle.circuit_files.proofs.WholeLemmas.{whole_file}
use Rattle.cosmos_app.proofs.DumpLemmas.{told_dumped}
use Rattle.cosmos_app.proofs.dumping.dump_file.Goals as goal

pub returns-in-Ok-clause-told : goal.returns-in-Ok-clause-told
returns-in-Ok-clause-told g c =
    told_dumped (g.F.Files.holds c.args.files.now) c.args.script.now c.args.circuit c.in-Ok.text.items c.deref.result.now
    (g.S.Sink.written c.args.out) (g.S.Sink.written c.dump_script.result.0) (g.A.Analyst.analysed c.args.analyst.now)
    (g.A.Analyst.analysed c.dump_script.new.analyst) c.dump_script.result.1
    c.in-Ok.ensures.bytes c.deref.ensures.value c.dump_script.ensures.told

pub returns-in-Ok-clause-whole : goal.returns-in-Ok-clause-whole
returns-in-Ok-clause-whole g c =
    at_ok c.dump_script.result.1
    (whole_file (g.F.Files.holds c.args.files.now) c.args.script.now c.in-Ok.text.items (g.F.Files.taken c.args.files.now)
    (g.F.Files.taken c.read_file.new.files) c.in-Ok.ensures.bytes c.in-Ok.ensures.whole)
