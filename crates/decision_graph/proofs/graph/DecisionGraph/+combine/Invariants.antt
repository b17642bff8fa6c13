-- How many variables are left to decide on.
use Rattle.std.proofs.Common.{◌-◌, min}
use Rattle.decision_graph.specs.Vertices.{level_at}
use Rattle.decision_graph.proofs.graph.DecisionGraph.+combine.Given as goal

abbrev pub decreases-combine : goal.decreases-combine
decreases-combine l = l.self.now.variables - min (level_at l.self.now.variables l.self.now.vertices l.a.place) (level_at l.self.now.variables l.self.now.vertices l.b.place)
