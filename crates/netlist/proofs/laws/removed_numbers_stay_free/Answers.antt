use Rattle.netlist.proofs.RemovalLemmas.{numbers_are_removed, removed_numbers_stay}
use Rattle.netlist.proofs.laws.removed_numbers_stay_free.Goals as goal

pub returns-clause-removed : goal.returns-clause-removed
returns-clause-removed c = numbers_are_removed

pub returns-clause-stays : goal.returns-clause-stays
returns-clause-stays c = removed_numbers_stay
