use Rattle.std.proofs.Common.{vec_len}
use Rattle.ports.proofs.TakenLemmas.{takes_more}
use Rattle.ports.proofs.reading.read_rest.Goals as goal

pub returns-in_err-more-clause-most : goal.returns-in_err-more-clause-most
returns-in_err-more-clause-most g c =
    takes_more _ _ _ (vec_len c.loop-more.bytes) c.args.most c.loop-more.invariant.bound c.loop-more.invariant.counted c.read_piece.ensures.most
