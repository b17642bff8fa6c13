-- They are no more than are left.
use Rattle.std.proofs.Common.{arith}
use Rattle.std.proofs.Math.Nat.{div-mul-le_self}
use Rattle.settling.proofs.recall.whole_rounds.Goals as goal

pub overflow_mul-result : goal.overflow_mul-result
overflow_mul-result c = omega (arith, div-mul-le_self c.args.left c.args.round)

pub returns-clause-fits : goal.returns-clause-fits
returns-clause-fits c = omega (arith, div-mul-le_self c.args.left c.args.round)
