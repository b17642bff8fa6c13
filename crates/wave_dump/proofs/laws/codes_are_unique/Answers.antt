-- See the lemma.
use Rattle.wave_dump.proofs.CodeLemmas.{unique}
use Rattle.wave_dump.proofs.laws.codes_are_unique.Goals as goal

pub returns : goal.returns
returns c = unique
