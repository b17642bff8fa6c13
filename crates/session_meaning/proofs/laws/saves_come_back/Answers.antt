use Rattle.session_meaning.proofs.SaveLemmas.{comes_back}
use Rattle.session_meaning.proofs.laws.saves_come_back.Goals as goal

pub returns : goal.returns
returns c = comes_back
