-- See the lemma.
use Rattle.wave_dump.proofs.TellingLemmas.{told}
use Rattle.wave_dump.proofs.laws.dumps_are_told.Goals as goal

pub returns : goal.returns
returns c = told
