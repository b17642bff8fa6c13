use Rattle.symbol_outcomes.proofs.RunLemmas.{answers_exist}
use Rattle.symbol_outcomes.proofs.laws.symbolic_scripts_have_answers.Goals as goal

pub returns : goal.returns
returns c = answers_exist
