-- Nothing counts the looks at nodes and switches.
use Rattle.fault_stage.proofs.leading.lead_in.Given as goal

abbrev pub ghosts-lead_uncounted : goal.ghosts-lead_uncounted
ghosts-lead_uncounted a = record { name = a.blank.name; parts = a.blank.parts }
