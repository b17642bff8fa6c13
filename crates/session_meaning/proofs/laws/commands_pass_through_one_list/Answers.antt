use Rattle.session_meaning.proofs.PassingLemmas.{passes_unique}
use Rattle.session_meaning.proofs.laws.commands_pass_through_one_list.Goals as goal

pub returns : goal.returns
returns c = passes_unique
