-- What was told of the text that was read is told of the script.
use Rattle.std.proofs.Common.{◌∙◌}
use Rattle.ports.proofs.ResultLemmas.{at_ok}
use Rattle.circuit_files.proofs.WholeLemmas.{whole_file}
use Rattle.symbol_app.specs.Comparisons.{IsComparedIn, RunsOutComparing}
use Rattle.symbol_app.proofs.SymbolLemmas.{compared-front, read_none_in_all, runs_out_comparing-front, told_text, untouched_in_all}
use Rattle.symbol_app.proofs.comparing.equiv_file.Goals as goal

pub returns-in-Ok-clause-told : goal.returns-in-Ok-clause-told
returns-in-Ok-clause-told g c =
    told_text (λ script. IsComparedIn script c.args.circuit c.args.second) (λ script. RunsOutComparing script c.args.circuit c.args.second) (compared-front c.args.circuit c.args.second)
    (runs_out_comparing-front c.args.circuit c.args.second) (g.F.Files.holds c.args.files.now) c.args.script.now c.in-Ok.text.items c.deref.result.now
    (g.S.Sink.written c.args.out) (g.S.Sink.written c.equiv_text.result.0) (g.A.Analyst.analysed c.args.analyst.now)
    (g.A.Analyst.analysed c.equiv_text.new.analyst) c.equiv_text.result.1 c.in-Ok.ensures.bytes c.deref.ensures.value c.equiv_text.ensures.told

pub returns-in-Ok-clause-read : goal.returns-in-Ok-clause-read
returns-in-Ok-clause-read g c =
    c.in-Ok.ensures.read ∙ read_none_in_all (g.F.Files.faults c.args.files.now) c.equiv_text.result.1 c.equiv_text.ensures.no_read

pub returns-in-Ok-clause-whole : goal.returns-in-Ok-clause-whole
returns-in-Ok-clause-whole g c =
    at_ok c.equiv_text.result.1
    (whole_file (g.F.Files.holds c.args.files.now) c.args.script.now c.in-Ok.text.items (g.F.Files.taken c.args.files.now)
    (g.F.Files.taken c.read_file.new.files) c.in-Ok.ensures.bytes c.in-Ok.ensures.whole)

pub returns-in-Ok-clause-untouched : goal.returns-in-Ok-clause-untouched
returns-in-Ok-clause-untouched g c =
    untouched_in_all (g.S.Sink.written c.args.out) (g.S.Sink.written c.equiv_text.result.0) c.equiv_text.result.1 c.equiv_text.ensures.no_read
