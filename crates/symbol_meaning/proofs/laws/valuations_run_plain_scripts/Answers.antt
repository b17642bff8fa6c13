use Rattle.symbol_meaning.proofs.RunLemmas.{columns_run}
use Rattle.symbol_meaning.proofs.laws.valuations_run_plain_scripts.Goals as goal

pub returns : goal.returns
returns c = columns_run
