use Rattle.symbol_told.proofs.PrintingLemmas.{symbol_lines_printed}
use Rattle.symbol_told.proofs.laws.symbol_lines_are_printed.Goals as goal

pub returns : goal.returns
returns c = symbol_lines_printed
