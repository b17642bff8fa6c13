-- See the lemma.
use Rattle.wave_dump.proofs.CommentLemmas.{comments}
use Rattle.wave_dump.proofs.laws.comments_end.Goals as goal

pub returns : goal.returns
returns c = comments
