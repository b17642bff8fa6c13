use Rattle.std.proofs.Common.{◌≡◌}
use Rattle.line_words.specs.Files as file
use Rattle.script_meaning.proofs.RunLemmas.{HasCome}
use Rattle.script_meaning.proofs.ShownLemmas.{HasShown}
use Rattle.script_run.proofs.script.obey_seen.Given as goal

abbrev pub invariant-loop-line : goal.invariant-loop-line
invariant-loop-line g l = record {
  come : HasCome g.L.Lines.hear (g.R.LineReader.reading l.reader) l.cut l.fn.session.core (file.lines_in l.text) (g.L.Lines.heard l.fn.out) (g.A.Analyst.analysed l.fn.analyst)
      l.session.core l.line-iterator (g.L.Lines.heard l.out) (g.A.Analyst.analysed l.analyst);
  shown : HasShown g.O.Observer.begin g.O.Observer.see g.O.Observer.rest (g.R.LineReader.reading l.reader) l.cut l.fn.session.core (file.lines_in l.text)
      (g.O.Observer.seen l.fn.onlooker) l.session.core l.line-iterator (g.O.Observer.seen l.onlooker);
  knows : g.O.Observer.knows l.onlooker l.session.core.state;
  faults : g.L.Lines.faults l.out ≡ g.L.Lines.faults l.fn.out;
  refusals : g.L.Lines.refusals l.out ≡ g.L.Lines.refusals l.fn.out;
}
