-- By the lemmas on the texts of a machine's parts.
use Rattle.machine_laws.proofs.KeptLemmas.{empty_places_are_covered, empty_places_keep_texts}
use Rattle.machine_laws.proofs.laws.empty_places_are_covered.Goals as goal

pub returns-clause-covers : goal.returns-clause-covers
returns-clause-covers c = empty_places_are_covered

pub returns-clause-texts : goal.returns-clause-texts
returns-clause-texts c = empty_places_keep_texts
