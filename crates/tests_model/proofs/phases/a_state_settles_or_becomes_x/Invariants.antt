-- The ledger that the blank becomes.
use Rattle.tests_model.proofs.phases.a_state_settles_or_becomes_x.Given as goal

abbrev pub ghosts-counted : goal.ghosts-counted
ghosts-counted g a = record { name = a.blank.name; parts = a.blank.parts }
