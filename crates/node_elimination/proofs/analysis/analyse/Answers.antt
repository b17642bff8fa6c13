-- The text's local graph is analysed.
use Rattle.node_elimination.proofs.analysis.analyse.Goals as goal

pub returns-clause-responses : goal.returns-clause-responses
returns-clause-responses g c = simp (c.graph.ensures.value, c.constants.ensures) at c.analyse_graph.ensures.responses

pub returns-clause-variables : goal.returns-clause-variables
returns-clause-variables g c = simp c.graph.ensures.value at c.analyse_graph.ensures.variables
