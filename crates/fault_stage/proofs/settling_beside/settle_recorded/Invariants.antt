-- Nothing counts the instructions.
use Rattle.fault_stage.proofs.settling_beside.settle_recorded.Given as goal

abbrev pub ghosts-note_uncounted : goal.ghosts-note_uncounted
ghosts-note_uncounted g a = record { name = a.blank.name; parts = a.blank.parts }
