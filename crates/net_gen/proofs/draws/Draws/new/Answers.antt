use Rattle.std.proofs.Common.{arith}
use Rattle.net_gen.proofs.DrawsLemmas.{number_after-zero}
use Rattle.net_gen.proofs.draws.Draws.new.Goals as goal

pub invariant_of-result : goal.invariant_of-result
invariant_of-result c = record { reached = number_after-zero c.args.seed; reduced = omega arith }
