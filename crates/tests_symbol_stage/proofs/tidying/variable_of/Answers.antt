-- The maker makes more, of the same variables.
use Rattle.tests_symbol_stage.proofs.tidying.variable_of.Goals as goal

pub returns-clause-variables : goal.returns-clause-variables
returns-clause-variables c = c.variable.ensures.makes.shape.variables

pub returns-clause-inside : goal.returns-clause-inside
returns-clause-inside c = c.variable.ensures.inside
