use Rattle.script_meaning.proofs.ShownLemmas.{shows_unique}
use Rattle.script_meaning.proofs.laws.scripts_show_one_list.Goals as goal

pub returns : goal.returns
returns c = shows_unique
