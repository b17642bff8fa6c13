use Rattle.symbol_meaning.proofs.UniqueAnswers.{answers_unique}
use Rattle.symbol_meaning.proofs.laws.symbolic_scripts_have_one_answer.Goals as goal

pub returns : goal.returns
returns c = answers_unique
