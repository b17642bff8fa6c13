use Rattle.node_words.proofs.LawLemmas.{accepted-nodes, faults-first}
use Rattle.node_words.proofs.laws.the_first_fault_refuses.Goals as goal

pub returns-clause-first : goal.returns-clause-first
returns-clause-first c = faults-first

pub returns-clause-none : goal.returns-clause-none
returns-clause-none c = accepted-nodes
