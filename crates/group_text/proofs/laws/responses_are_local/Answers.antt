-- The law of locality.
use Rattle.group_text.proofs.Locality.{responses}
use Rattle.group_text.proofs.laws.responses_are_local.Goals as goal

pub returns : goal.returns
returns c = responses
