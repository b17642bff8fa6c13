-- Of one item it is told by that, and other lists are none.
use Rattle.std.proofs.Common.{ap, sym, ◌∙◌, arith}
use Rattle.symbol_expecting.specs.Telling.{is_formula_item}
use Rattle.symbol_expecting.proofs.LetterLemmas.{formula_alone, formula_beside}
use Rattle.symbol_expecting.proofs.letters.is_formula_alone.Goals as goal

pub returns-then-count-eq1 : goal.returns-then-count-eq1
returns-then-count-eq1 c =
    c.is_formula_item.ensures ∙ ap is_formula_item c.index-items-0.is
    ∙ sym (formula_alone c.args.items.now c.index-items-0.result (omega (arith, c.if-count-eq1.true)))

pub returns : goal.returns
returns c = sym (formula_beside c.args.items.now c.if-count-eq1.false)
