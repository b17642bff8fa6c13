-- Nothing counts the instructions.
use Rattle.machine_stage.proofs.moving.settle_to_rest.Given as goal

abbrev pub ghosts-settle_uncounted : goal.ghosts-settle_uncounted
ghosts-settle_uncounted g a = record { name = a.blank.name; parts = a.blank.parts }

abbrev pub ghosts-rest_uncounted : goal.ghosts-rest_uncounted
ghosts-rest_uncounted g a = record { name = a.blank.name; parts = a.blank.parts }
