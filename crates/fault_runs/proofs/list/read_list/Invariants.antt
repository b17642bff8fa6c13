use Rattle.line_words.specs.Files as file
use Rattle.fault_meaning.proofs.ListLemmas.{HasRead}
use Rattle.fault_runs.proofs.list.read_list.Given as goal

abbrev pub invariant-loop-line : goal.invariant-loop-line
invariant-loop-line l = HasRead l.circuit l.cut (file.lines_in l.text) l.faults l.line-iterator
