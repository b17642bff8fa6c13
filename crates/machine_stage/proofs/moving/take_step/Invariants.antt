-- Nothing counts the instructions.
use Rattle.machine_stage.proofs.moving.take_step.Given as goal

abbrev pub ghosts-step_uncounted : goal.ghosts-step_uncounted
ghosts-step_uncounted g a = record { name = a.blank.name; parts = a.blank.parts }
