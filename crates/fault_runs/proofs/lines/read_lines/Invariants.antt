use Rattle.line_words.specs.Files as file
use Rattle.fault_runs.proofs.LineLemmas.{HasRead}
use Rattle.fault_runs.proofs.lines.read_lines.Given as goal

abbrev pub invariant-loop-line : goal.invariant-loop-line
invariant-loop-line l = HasRead (file.lines_in l.script) l.line-iterator l.read
