-- The maker is that of the graph that was made.
use Rattle.std.proofs.Common.{ap, ◌∙◌}
use Rattle.truth_makers.specs.declared.symbols.Symbols.{Symbols}
use Rattle.tests_symbol_stage.proofs.tidying.stage_of.Goals as goal

pub returns : goal.returns
returns c = ap (λ (symbols : Symbols). symbols.graph.variables) c.in_ok-stage.ensures.maker ∙ c.in_ok-graph.ensures.variables
