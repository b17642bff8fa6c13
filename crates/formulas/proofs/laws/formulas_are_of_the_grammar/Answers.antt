use Rattle.formulas.proofs.GrammarLemmas.{formulas_grammar, one_formula}
use Rattle.formulas.proofs.laws.formulas_are_of_the_grammar.Goals as goal

pub returns-clause-grammar : goal.returns-clause-grammar
returns-clause-grammar c = formulas_grammar

pub returns-clause-one : goal.returns-clause-one
returns-clause-one c = one_formula
