-- The law of the parts that are apart.
use Rattle.run_beside.proofs.KeepingApart.{steps_keep}
use Rattle.run_beside.proofs.laws.steps_keep_apart.Goals as goal

pub returns : goal.returns
returns c = steps_keep
