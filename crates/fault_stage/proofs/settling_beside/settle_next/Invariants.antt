-- Nothing counts the instructions.
use Rattle.fault_stage.proofs.settling_beside.settle_next.Given as goal

abbrev pub ghosts-beside_uncounted : goal.ghosts-beside_uncounted
ghosts-beside_uncounted g a = record { name = a.blank.name; parts = a.blank.parts }
