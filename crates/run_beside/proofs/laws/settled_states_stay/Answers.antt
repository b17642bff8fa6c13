-- The laws of replacements beyond the end of a phase.
use Rattle.run_beside.proofs.RestingRuns.{rest_stays, settled_stays}
use Rattle.run_beside.proofs.SettlingRuns.{replaced_settles}
use Rattle.run_beside.proofs.laws.settled_states_stay.Goals as goal

pub returns : goal.returns
returns c = record { rests = rest_stays; settled = settled_stays; replaced = replaced_settles }
