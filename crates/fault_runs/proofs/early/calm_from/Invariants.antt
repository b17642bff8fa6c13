use Rattle.line_words.specs.Files as file
use Rattle.fault_meaning.proofs.FromLemmas.{HasScanned}
use Rattle.fault_runs.proofs.early.calm_from.Given as goal

abbrev pub invariant-loop-line : goal.invariant-loop-line
invariant-loop-line l = HasScanned (file.lines_in l.script) l.line-iterator l.from
