use Rattle.symbol_app.proofs.UniqueAnswers.{answers_unique, answers_alike, dumps_unique}
use Rattle.symbol_app.proofs.SymbolicAnswers.{comparisons_unique, symbolic_unique}
use Rattle.symbol_app.proofs.laws.answers_are_unique.Goals as goal

pub returns-clause-one : goal.returns-clause-one
returns-clause-one c = answers_unique

pub returns-clause-alike : goal.returns-clause-alike
returns-clause-alike c = answers_alike

pub returns-clause-dumps : goal.returns-clause-dumps
returns-clause-dumps c = dumps_unique

pub returns-clause-symbolic : goal.returns-clause-symbolic
returns-clause-symbolic c = symbolic_unique

pub returns-clause-equiv : goal.returns-clause-equiv
returns-clause-equiv c = comparisons_unique
