use Rattle.symbol_outcomes.proofs.RunLemmas.{lines_run}
use Rattle.symbol_outcomes.proofs.laws.symbolic_lines_run.Goals as goal

pub returns : goal.returns
returns c = lines_run
