-- The steps of the code's runs are counted by the blank's own ledger.
use Rattle.tests_elimination.proofs.tests.code_gives_the_plain_step.Given as goal

abbrev pub ghosts-compare : goal.ghosts-compare
ghosts-compare g a = record { name = a.blank.name; parts = a.blank.parts }
