-- As many pairs as there are of the fewer.
use Rattle.std.proofs.Common.{◌∙◌, ℕ, ap, nat_le, sym}
use Rattle.symbol_meaning.specs.Told.{most_told}
use Rattle.symbol_told.proofs.ValuationLemmas.{few_pairs}
use Rattle.symbol_told.proofs.valuations.are_few.Goals as goal

pub returns : goal.returns
returns c =
    ap (λ (count : ℕ). nat_le count most_told) c.min.ensures
    ∙ sym (few_pairs c.args.variables.now c.args.truths.now)
