-- The law of steps.
use Rattle.beside.proofs.BesideFits.{steps_fit_beside}
use Rattle.beside.proofs.laws.steps_fit_beside.Goals as goal

pub returns : goal.returns
returns c = steps_fit_beside
