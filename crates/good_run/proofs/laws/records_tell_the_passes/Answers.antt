-- The law of records.
use Rattle.good_run.proofs.PassLemmas.{records_tell}
use Rattle.good_run.proofs.laws.records_tell_the_passes.Goals as goal

pub returns : goal.returns
returns c = records_tell
