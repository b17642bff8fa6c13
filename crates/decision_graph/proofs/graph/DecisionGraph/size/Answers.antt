-- No two vertices are equal, since the set holds none twice.
use Rattle.std.proofs.Common.{subst}
use Rattle.decision_graph.specs.Vertices.{IsApart}
use Rattle.decision_graph.proofs.VertexLemmas.{IsApart-from_distinct}
use Rattle.decision_graph.proofs.graph.DecisionGraph.size.Goals as goal

pub returns-clause-apart : goal.returns-clause-apart
returns-clause-apart c =
    subst (λ graph. IsApart graph.vertices) c.self.view_is (IsApart-from_distinct c.self.inside.vertices.keys c.len.ensures.unique)
