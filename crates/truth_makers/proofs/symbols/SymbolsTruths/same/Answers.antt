-- A graph's functions are equal if they agree in all columns.
use Rattle.truth_makers.proofs.SymbolLemmas.{same-in_columns}
use Rattle.truth_makers.specs.Valuations.{valuation_of}
use Rattle.truth_makers.proofs.symbols.SymbolsTruths.same.Goals as goal

pub returns : goal.returns
returns c = (
  λ yes column inside. c.same.ensures.agree.0 yes (valuation_of c.args.self.now.graph.variables column),
  λ agree. c.same.ensures.agree.1 (same-in_columns c.args.self.now.graph.variables c.args.self.now.graph.vertices c.args.a.place c.args.b.place
      c.size.ensures.reduced c.requires.first c.requires.second agree),
)
