-- See the lemma.
use Rattle.state_cover.proofs.LawLemmas.{notes_tell}
use Rattle.state_cover.proofs.laws.notes_tell_the_states.Goals as goal

pub returns : goal.returns
returns c = notes_tell
