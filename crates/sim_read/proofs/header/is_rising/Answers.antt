use Rattle.std.proofs.Common.{sym, ◌∙◌, arith}
use Rattle.sim_read.proofs.HeaderLemmas.{is_rising-few}
use Rattle.sim_read.proofs.header.is_rising.Goals as goal

pub returns : goal.returns
returns c = sym (is_rising-few c.numbers.left.now (omega arith)) ∙ c.numbers.invariant
