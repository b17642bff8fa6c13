use Rattle.sim_read.proofs.CircuitLemmas.{netlist_of-netlist}
use Rattle.sim_read.proofs.MeaningLemmas.{means-IsFirstRefused, means-MakesAll, netlist_of-front_of}
use Rattle.sim_read.proofs.laws.netlists_are_circuits_or_refused_lines.Goals as goal

pub returns-clause-front : goal.returns-clause-front
returns-clause-front c = netlist_of-front_of

-- the first refused line
pub returns-clause-refused : goal.returns-clause-refused
returns-clause-refused c = means-IsFirstRefused

-- what all lines make
pub returns-clause-made : goal.returns-clause-made
returns-clause-made c = means-MakesAll

-- what is made is a circuit
pub returns-clause-circuit : goal.returns-clause-circuit
returns-clause-circuit c = netlist_of-netlist
