-- What was run and heard of the lines before this one.
use Rattle.std.proofs.Common.{◌≡◌}
use Rattle.line_words.specs.Files as file
use Rattle.symbol_meaning.specs.Scripts.{before_stop}
use Rattle.symbol_reading.proofs.ReadingLemmas.{Rises}
use Rattle.symbol_run.proofs.RunLemmas.{Come}
use Rattle.symbol_run.proofs.lines.obey_lines.Given as goal

abbrev pub invariant-loop-line : goal.invariant-loop-line
invariant-loop-line g l = record {
  rises : Rises 0 l.line-iterator;
  come : Come g.L.SymbolLines.hear (g.M.LineSession.quiet l.fn.session) (g.M.LineSession.valuations l.fn.session) l.cut (g.M.LineSession.sessions l.fn.session)
      (before_stop l.stop (file.lines_in l.text)) (g.M.LineSession.sessions l.session) (before_stop l.stop l.line-iterator) (g.L.SymbolLines.heard l.fn.out)
      (g.L.SymbolLines.heard l.out) (g.A.Analyst.analysed l.fn.analyst) (g.A.Analyst.analysed l.analyst);
  serves : g.M.LineSession.serves l.session l.cut (before_stop l.stop l.line-iterator);
  quiet : g.M.LineSession.quiet l.session ≡ g.M.LineSession.quiet l.fn.session;
  valuations : g.M.LineSession.valuations l.session ≡ g.M.LineSession.valuations l.fn.session;
  faults : g.L.SymbolLines.faults l.out ≡ g.L.SymbolLines.faults l.fn.out;
  refusals : g.L.SymbolLines.refusals l.out ≡ g.L.SymbolLines.refusals l.fn.out;
}
