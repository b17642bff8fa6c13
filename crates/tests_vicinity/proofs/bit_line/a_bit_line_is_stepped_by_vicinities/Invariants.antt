-- The ledger of the test is the one that its blank becomes.
use Rattle.tests_vicinity.proofs.bit_line.a_bit_line_is_stepped_by_vicinities.Given as goal

abbrev pub ghosts-run : goal.ghosts-run
ghosts-run g a = record { name = a.blank.name; parts = a.blank.parts }
