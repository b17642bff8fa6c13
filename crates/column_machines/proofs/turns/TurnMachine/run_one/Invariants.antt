-- Nothing counts the instructions.
use Rattle.column_machines.proofs.turns.TurnMachine.run_one.Given as goal

abbrev pub ghosts-drive : goal.ghosts-drive
ghosts-drive a = record { name = a.blank.name; parts = a.blank.parts }
