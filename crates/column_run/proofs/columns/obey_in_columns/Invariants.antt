use Rattle.std.proofs.Common.{◌≡◌}
use Rattle.line_words.specs.Files as file
use Rattle.session_meaning.specs.Columns.{column_of}
use Rattle.column_run.proofs.RunLemmas.{HasCome}
use Rattle.column_run.proofs.columns.obey_in_columns.Given as goal

abbrev pub invariant-loop-line : goal.invariant-loop-line
invariant-loop-line g l = record {
  come : HasCome g.L.Lines.hear (g.M.Columns.columns l.fn.session.stage) l.cut (column_of g.M.Columns.states l.fn.session) (file.lines_in l.text)
      (g.L.Lines.heard l.fn.out) (g.A.Analyst.analysed l.fn.analyst) (column_of g.M.Columns.states l.session) l.line-iterator (g.L.Lines.heard l.out)
      (g.A.Analyst.analysed l.analyst);
  columns : g.M.Columns.columns l.session.stage ≡ g.M.Columns.columns l.fn.session.stage;
  faults : g.L.Lines.faults l.out ≡ g.L.Lines.faults l.fn.out;
  refusals : g.L.Lines.refusals l.out ≡ g.L.Lines.refusals l.fn.out;
}
