use Rattle.truth_makers.proofs.SymbolLemmas.{never-in_columns}
use Rattle.truth_makers.specs.Valuations.{valuation_of}
use Rattle.truth_makers.proofs.symbols.SymbolsTruths.is_never.Goals as goal

pub returns : goal.returns
returns c = (
  λ never column inside. c.is_never.ensures.never.0 never (valuation_of c.args.self.now.graph.variables column),
  λ none. c.is_never.ensures.never.1 (never-in_columns c.args.self.now.graph.variables c.args.self.now.graph.vertices c.args.truth.place
      c.size.ensures.reduced c.requires none),
)
