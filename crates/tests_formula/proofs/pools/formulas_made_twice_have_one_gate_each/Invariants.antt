-- The ledger of the test is the one that its blank becomes.
use Rattle.tests_formula.proofs.pools.formulas_made_twice_have_one_gate_each.Given as goal

abbrev pub ghosts-sizes : goal.ghosts-sizes
ghosts-sizes g a = record { name = a.blank.name; parts = a.blank.parts }
