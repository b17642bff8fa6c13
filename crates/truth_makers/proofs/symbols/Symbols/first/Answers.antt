-- The first valuation is that of the first column.
use Rattle.decision_graph.specs.Meaning.{assigned}
use Rattle.truth_makers.proofs.SymbolLemmas.{first-column}
use Rattle.truth_makers.proofs.symbols.Symbols.first.Goals as goal

pub returns-in-Some-clause-first : goal.returns-in-Some-clause-first
returns-in-Some-clause-first c =
    first-column c.args.self.now.graph.variables c.args.self.now.graph.vertices c.args.truth.place (assigned c.in-Some.vars.items)
    c.size.ensures.reduced c.requires (rw c.in-Some.is at c.in_ok-vars.ensures.holds) (rw c.in-Some.is at c.in_ok-vars.ensures.first)
