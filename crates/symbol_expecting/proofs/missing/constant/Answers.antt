-- It is one of the maker.
use Rattle.std.proofs.Common.{◌≡◌, ℕ, ◌<◌, subst}
use Rattle.truth_makers.specs.declared.symbols.Symbols.{Symbols}
use Rattle.truth_makers.specs.Makers.{columns_in, function_holds, IsFunctionOf}
use Rattle.symbol_expecting.proofs.missing.constant.Goals as goal

pub returns-clause-has : goal.returns-clause-has
returns-clause-has c = subst (λ (symbols : Symbols). IsFunctionOf symbols c.constant.result) c.symbols.ensures c.constant.ensures.has

pub returns-clause-value : goal.returns-clause-value
returns-clause-value c =
    subst (λ (symbols : Symbols). (column : ℕ) → column < columns_in symbols → function_holds symbols c.constant.result column ≡ c.args.value) c.symbols.ensures
    c.constant.ensures.value
