use Rattle.formula_functions.proofs.TruthLemmas.{truths_of_formulas}
use Rattle.formula_functions.proofs.laws.truths_are_of_formulas.Goals as goal

pub returns : goal.returns
returns c = truths_of_formulas
