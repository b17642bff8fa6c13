use Rattle.std.proofs.Common.{rules}
use Rattle.sim_read.proofs.StandingLemmas.{starts}
use Rattle.sim_read.proofs.pieces.Reader.new.Goals as goal

pub returns : goal.returns
returns c = starts _ (search rules)
