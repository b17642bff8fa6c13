use Rattle.truth_makers.proofs.SymbolLemmas.{functions-kept}
use Rattle.truth_makers.proofs.symbols.SymbolsTruths.perform.Goals as goal

pub returns-in-Not-clause-kept : goal.returns-in-Not-clause-kept
returns-in-Not-clause-kept c = functions-kept _ _ _ _ c.not.ensures.shape.variables c.not.ensures.extends

pub returns-in-Not-clause-bound : goal.returns-in-Not-clause-bound
returns-in-Not-clause-bound c = c.not.ensures.shape.most

pub returns-in-And-clause-kept : goal.returns-in-And-clause-kept
returns-in-And-clause-kept c = functions-kept _ _ _ _ c.and.ensures.shape.variables c.and.ensures.extends

pub returns-in-And-clause-bound : goal.returns-in-And-clause-bound
returns-in-And-clause-bound c = c.and.ensures.shape.most

pub returns-in-Or-clause-kept : goal.returns-in-Or-clause-kept
returns-in-Or-clause-kept c = functions-kept _ _ _ _ c.or.ensures.shape.variables c.or.ensures.extends

pub returns-in-Or-clause-bound : goal.returns-in-Or-clause-bound
returns-in-Or-clause-bound c = c.or.ensures.shape.most
