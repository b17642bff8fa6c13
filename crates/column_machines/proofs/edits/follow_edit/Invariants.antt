-- Nothing counts the looks at nodes and switches.
use Rattle.column_machines.proofs.edits.follow_edit.Given as goal

abbrev pub ghosts-edit_uncounted : goal.ghosts-edit_uncounted
ghosts-edit_uncounted a = record { name = a.blank.name; parts = a.blank.parts }
