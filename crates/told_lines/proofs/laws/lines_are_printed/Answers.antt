use Rattle.told_lines.proofs.PrintingLemmas.{lines_printed}
use Rattle.told_lines.proofs.laws.lines_are_printed.Goals as goal

pub returns : goal.returns
returns c = lines_printed
