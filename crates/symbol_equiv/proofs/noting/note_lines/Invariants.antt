-- What was run and noted of the lines before this one.
use Rattle.std.proofs.Common.{◌≡◌, true}
use Rattle.line_words.specs.Files as file
use Rattle.symbol_meaning.specs.Scripts.{before_stop}
use Rattle.symbol_reading.proofs.ReadingLemmas.{Rises}
use Rattle.symbol_equiv.proofs.RunLemmas.{Noting}
use Rattle.symbol_equiv.proofs.noting.note_lines.Given as goal

abbrev pub invariant-loop-line : goal.invariant-loop-line
invariant-loop-line g l = record {
  rises : Rises 0 l.line-iterator;
  noting : Noting (g.M.SharesMaker.maker l.fn.session) (g.M.SharesMaker.maker l.session) (g.M.LineSession.valuations l.fn.session) l.cut
      (g.M.LineSession.sessions l.fn.session) (before_stop l.stop (file.lines_in l.text)) (g.M.LineSession.sessions l.session)
      (before_stop l.stop l.line-iterator) l.fn.kept l.kept l.notes (g.A.Analyst.analysed l.fn.analyst) (g.A.Analyst.analysed l.analyst);
  serves : g.M.LineSession.serves l.session l.cut (before_stop l.stop l.line-iterator);
  quiet : g.M.LineSession.quiet l.session ≡ true;
  valuations : g.M.LineSession.valuations l.session ≡ g.M.LineSession.valuations l.fn.session;
}
