-- The laws of what is kept beside a good run.
use Rattle.run_beside.proofs.BesideRuns.{steps_stay, placing_stays}
use Rattle.run_beside.proofs.laws.runs_stay_beside.Goals as goal

pub returns-clause-steps : goal.returns-clause-steps
returns-clause-steps c = steps_stay

pub returns-clause-places : goal.returns-clause-places
returns-clause-places c = placing_stays
