use Rattle.sim_read.proofs.SumLemmas.{lines_in_any_order}
use Rattle.sim_read.proofs.laws.capacitances_add_in_any_order.Goals as goal

pub returns : goal.returns
returns c = lines_in_any_order
