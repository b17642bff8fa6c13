use Rattle.line_words.specs.Files as file
use Rattle.dump_run.specs.Turns.{Rests}
use Rattle.dump_run.proofs.RunLemmas.{HasCome}
use Rattle.dump_run.proofs.script.obey_dumped.Given as goal

abbrev pub invariant-loop-line : goal.invariant-loop-line
invariant-loop-line g l = record {
  come : HasCome l.cut l.fn.session.core (file.lines_in l.text) l.fn.out.sheet (g.A.Analyst.analysed l.fn.analyst) l.session.core l.line-iterator
      l.out.sheet (g.A.Analyst.analysed l.analyst);
  rests : Rests l.out.sheet l.session.core.state;
}
