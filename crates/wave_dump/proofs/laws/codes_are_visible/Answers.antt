-- See the lemma.
use Rattle.wave_dump.proofs.CodeLemmas.{visible}
use Rattle.wave_dump.proofs.laws.codes_are_visible.Goals as goal

pub returns : goal.returns
returns c = visible
