-- What was told of the text that was read is told of the script.
use Rattle.std.proofs.Common.{◌∙◌}
use Rattle.ports.proofs.ResultLemmas.{at_ok}
use Rattle.circuit_files.proofs.WholeLemmas.{whole_file}
use Rattle.symbol_app.specs.Symbolic.{IsSymbolic, RunsOutAt}
use Rattle.symbol_app.proofs.SymbolLemmas.{read_none_in_all, runs_out-front, symbolic-front, told_text, untouched_in_all}
use Rattle.symbol_app.proofs.symbols.symbolic_file.Goals as goal

pub returns-in-Ok-clause-told : goal.returns-in-Ok-clause-told
returns-in-Ok-clause-told g c =
    told_text (λ script. IsSymbolic script c.args.circuit) (λ script. RunsOutAt script c.args.circuit) (symbolic-front c.args.circuit)
    (runs_out-front c.args.circuit) (g.F.Files.holds c.args.files.now) c.args.script.now c.in-Ok.text.items c.deref.result.now
    (g.S.Sink.written c.args.out) (g.S.Sink.written c.symbolic_text.result.0) (g.A.Analyst.analysed c.args.analyst.now)
    (g.A.Analyst.analysed c.symbolic_text.new.analyst) c.symbolic_text.result.1 c.in-Ok.ensures.bytes c.deref.ensures.value c.symbolic_text.ensures.told

pub returns-in-Ok-clause-read : goal.returns-in-Ok-clause-read
returns-in-Ok-clause-read g c =
    c.in-Ok.ensures.read ∙ read_none_in_all (g.F.Files.faults c.args.files.now) c.symbolic_text.result.1 c.symbolic_text.ensures.no_read

pub returns-in-Ok-clause-whole : goal.returns-in-Ok-clause-whole
returns-in-Ok-clause-whole g c =
    at_ok c.symbolic_text.result.1
    (whole_file (g.F.Files.holds c.args.files.now) c.args.script.now c.in-Ok.text.items (g.F.Files.taken c.args.files.now)
    (g.F.Files.taken c.read_file.new.files) c.in-Ok.ensures.bytes c.in-Ok.ensures.whole)

pub returns-in-Ok-clause-untouched : goal.returns-in-Ok-clause-untouched
returns-in-Ok-clause-untouched g c =
    untouched_in_all (g.S.Sink.written c.args.out) (g.S.Sink.written c.symbolic_text.result.0) c.symbolic_text.result.1 c.symbolic_text.ensures.no_read
