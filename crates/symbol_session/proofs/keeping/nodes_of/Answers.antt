-- Each column has a state for each node, so there are functions for all.
use Rattle.symbol_session.proofs.KeptLemmas.{has_nodes}
use Rattle.symbol_session.proofs.keeping.nodes_of.Goals as goal

pub returns-clause-has : goal.returns-clause-has
returns-clause-has c = rw (c.nodes.ensures, c.graph.ensures.value, c.circuit.ensures.value) (has_nodes c.args.session.now c.circuit.ensures.session)
