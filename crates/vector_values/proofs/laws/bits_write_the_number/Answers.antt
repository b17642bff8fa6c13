use Rattle.vector_values.proofs.LawLemmas.{fitted_number}
use Rattle.vector_values.proofs.laws.bits_write_the_number.Goals as goal

pub returns-clause-fitted : goal.returns-clause-fitted
returns-clause-fitted c = fitted_number
