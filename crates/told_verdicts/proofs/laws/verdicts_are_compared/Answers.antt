use Rattle.told_verdicts.proofs.ComparingLemmas.{verdicts_compared}
use Rattle.told_verdicts.proofs.laws.verdicts_are_compared.Goals as goal

pub returns : goal.returns
returns c = verdicts_compared
