-- By the lemmas on columns.
use Rattle.machine_laws.proofs.ColumnEdits.{edits_keep_columns, edits_add_no_texts, finishes_keep_columns, fitting_machines_fit_all}
use Rattle.machine_laws.proofs.laws.columns_stay_through_edits.Goals as goal

pub returns : goal.returns
returns c = record { edited = edits_keep_columns; untold = edits_add_no_texts; finished = finishes_keep_columns; fitting = fitting_machines_fit_all }
