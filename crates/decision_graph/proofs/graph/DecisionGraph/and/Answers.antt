-- The function was combined.
use Rattle.decision_graph.specs.declared.combining.Kind.TheVariants.{And}
use Rattle.decision_graph.proofs.CombineLemmas.{told-combined}
use Rattle.decision_graph.proofs.graph.DecisionGraph.and.Goals as goal

pub returns-clause-value : goal.returns-clause-value
returns-clause-value c =
    told-combined c.combine.new.self.variables c.args.self.now.vertices c.combine.new.self.vertices And c.args.a.place c.args.b.place c.combine.result
    c.combine.ensures.extends c.requires.first c.requires.second c.combine.ensures.combined
