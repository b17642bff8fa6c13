-- How many variables are left to decide on.
use Rattle.std.proofs.Common.{◌-◌}
use Rattle.decision_graph.specs.Vertices.{level_at}
use Rattle.decision_graph.proofs.graph.DecisionGraph.+copy.Given as goal

abbrev pub decreases-copy : goal.decreases-copy
decreases-copy l = l.self.now.variables - level_at l.self.now.variables l.self.now.vertices l.function.place
