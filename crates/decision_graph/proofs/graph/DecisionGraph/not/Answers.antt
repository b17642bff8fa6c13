-- The function was combined with the constant true.
use Rattle.decision_graph.proofs.CombineLemmas.{told-not}
use Rattle.decision_graph.proofs.graph.DecisionGraph.not.Goals as goal

pub returns-clause-value : goal.returns-clause-value
returns-clause-value c =
    told-not c.combine.new.self.variables c.args.self.now.vertices c.combine.new.self.vertices c.args.a.place c.constant-always.result.place c.combine.result
    c.combine.ensures.extends c.requires c.constant-always.ensures.inside c.constant-always.ensures.value c.combine.ensures.combined
