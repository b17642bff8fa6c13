-- Of states that come again nothing new is noted.
use Rattle.state_cover.proofs.OnceLemmas.{noted_once}
use Rattle.state_cover.proofs.cover.CoverObserver.is_once_enough.Goals as goal

pub returns : goal.returns
returns c = record { again = noted_once }
