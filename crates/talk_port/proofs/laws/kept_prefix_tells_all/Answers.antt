-- Both laws are shown in `KeptLemmas`.
use Rattle.talk_port.proofs.KeptLemmas.{kept-fault, kept-whole}
use Rattle.talk_port.proofs.laws.kept_prefix_tells_all.Goals as goal

pub returns-clause-fault : goal.returns-clause-fault
returns-clause-fault c = kept-fault

pub returns-clause-whole : goal.returns-clause-whole
returns-clause-whole c = kept-whole
