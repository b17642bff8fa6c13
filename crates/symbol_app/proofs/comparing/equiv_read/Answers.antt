-- What was told of both runs and the comparison is told of its end.
use Rattle.std.proofs.Common.{refl, ap, ◌∙◌}
use Rattle.line_words.specs.Files as file
use Rattle.symbol_reading.specs.declared.reading.ScriptRead.{ScriptRead}
use Rattle.symbol_session.specs.Starting.{StartData, valuations_at_start}
use Rattle.symbol_app.proofs.SymbolLemmas.{comparison_faults, comparison_refused, comparison_told, comparison_unread, told_of_starts, valued_start}
use Rattle.symbol_app.proofs.comparing.equiv_read.Goals as goal

pub equiv-out-requires-clause-first : goal.equiv-out-requires-clause-first
equiv-out-requires-clause-first g c = ap valuations_at_start c.in-Ok.ensures.first

pub equiv-out-requires-clause-second : goal.equiv-out-requires-clause-second
equiv-out-requires-clause-second g c = ap valuations_at_start c.in-Ok.ensures.second

pub equiv-out-requires-clause-alike : goal.equiv-out-requires-clause-alike
equiv-out-requires-clause-alike g c = record { count = refl; places = refl }

pub equiv-out-requires-clause-valued : goal.equiv-out-requires-clause-valued
equiv-out-requires-clause-valued g c = valued_start c.in-Ok.symbols c.args.text.now c.in-Ok.ensures.maker

pub equiv-out-requires-clause-stop : goal.equiv-out-requires-clause-stop
equiv-out-requires-clause-stop g c = ap (λ (read : ScriptRead). read.stop) c.requires.read

pub equiv-out-requires-clause-variables : goal.equiv-out-requires-clause-variables
equiv-out-requires-clause-variables g c = c.items.ensures ∙ ap (λ (read : ScriptRead). read.variables) c.requires.read

pub returns-in-Ok-clause-told : goal.returns-in-Ok-clause-told
returns-in-Ok-clause-told g c =
    comparison_told c.args.read.now.bound c.equiv-out.result.1 c.end_of_comparison.result c.end_of_comparison.ensures c.args.text.now c.args.circuit
    c.args.second (g.S.Sink.written c.args.out) (g.S.Sink.written c.equiv-out.result.0) (g.A.Analyst.analysed c.args.analyst.now)
    (g.A.Analyst.analysed c.equiv-out.new.analyst) (ap (λ (read : ScriptRead). read.bound) c.requires.read)
    (told_of_starts (file.cut_line c.args.text.now) (file.lines_in c.args.text.now) c.in-Ok.one c.in-Ok.other c.args.circuit c.args.second
    (g.S.Sink.written c.args.out) (g.S.Sink.written c.equiv-out.result.0) (g.A.Analyst.analysed c.args.analyst.now)
    (g.A.Analyst.analysed c.equiv-out.new.analyst) c.equiv-out.result.1 (ap (λ (start : StartData). start.circuit) c.in-Ok.ensures.first)
    (ap (λ (start : StartData). start.circuit) c.in-Ok.ensures.second) c.equiv-out.ensures.told)

pub returns-in-Ok-clause-no_read : goal.returns-in-Ok-clause-no_read
returns-in-Ok-clause-no_read g c = comparison_unread c.args.read.now.bound c.equiv-out.result.1 c.end_of_comparison.result c.end_of_comparison.ensures

pub returns-in-Ok-clause-write : goal.returns-in-Ok-clause-write
returns-in-Ok-clause-write g c =
    c.equiv-out.ensures.write
    ∙ comparison_faults c.args.read.now.bound c.equiv-out.result.1 c.end_of_comparison.result c.end_of_comparison.ensures (g.S.Sink.faults c.args.out)

pub returns-in-Ok-clause-refused : goal.returns-in-Ok-clause-refused
returns-in-Ok-clause-refused g c =
    comparison_refused c.args.read.now.bound c.equiv-out.result.1 c.end_of_comparison.result c.end_of_comparison.ensures (g.S.Sink.refusals c.args.out)
    (g.S.Sink.refusals c.equiv-out.result.0) c.equiv-out.ensures.refused
