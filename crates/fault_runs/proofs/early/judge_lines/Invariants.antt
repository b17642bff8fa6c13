use Rattle.std.proofs.Common.{drop}
use Rattle.line_words.specs.Files as file
use Rattle.told_verdicts.specs.Comparing.{compared}
use Rattle.fault_sim.specs.Masks.{masked_reading}
use Rattle.script_meaning.proofs.RunLemmas.{HasCome}
use Rattle.fault_meaning.proofs.PlaceLemmas.{IsPlaced}
use Rattle.fault_runs.proofs.early.judge_lines.Given as goal

abbrev pub invariant-loop-line : goal.invariant-loop-line
invariant-loop-line g l = record {
  come : HasCome compared (masked_reading l.stuck) l.cut l.fn.session.core (file.lines_in l.script) l.initial.out (g.A.Analyst.analysed l.fn.analyst)
      l.session.core (drop l.line-index (file.lines_in l.script)) l.out (g.A.Analyst.analysed l.analyst);
  placed : IsPlaced l.calm_from (drop l.line-index (file.lines_in l.script)) l.session.core;
}
