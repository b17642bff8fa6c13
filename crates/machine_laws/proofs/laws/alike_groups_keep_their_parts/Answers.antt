-- The law of parts that two graphs share.
use Rattle.machine_laws.proofs.AlikeParts as parts
use Rattle.machine_laws.proofs.laws.alike_groups_keep_their_parts.Goals as goal

pub returns : goal.returns
returns c = parts.alike_groups_keep_their_parts
