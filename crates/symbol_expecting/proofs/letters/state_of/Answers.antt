-- Both functions hold in the column as under the valuation.
use Rattle.std.proofs.Common.{ap₂, ◌∙◌}
use Rattle.truth_parts.specs.Columns.{state_with}
use Rattle.symbol_expecting.proofs.LetterLemmas.{value_under}
use Rattle.symbol_expecting.proofs.letters.state_of.Goals as goal

pub returns : goal.returns
returns c =
    let symbols = c.args.symbols.now in
    let reduced = c.size.ensures.reduced in
    c.state_with.ensures
    ∙ ap₂ state_with (c.value-one.ensures ∙ value_under symbols c.args.hi c.args.vars.now reduced c.requires.high)
    (c.value-zero.ensures ∙ value_under symbols c.args.lo c.args.vars.now reduced c.requires.low)
