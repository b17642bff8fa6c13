-- The law of links.
use Rattle.group_meaning.proofs.LinkLemmas.{equivalence}
use Rattle.group_meaning.proofs.linked_is_an_equivalence.Goals as goal

pub returns : goal.returns
returns c = equivalence
