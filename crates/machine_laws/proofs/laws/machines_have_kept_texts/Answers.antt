-- By the lemmas on the texts of a machine's parts.
use Rattle.machine_laws.proofs.KeptLemmas.{built_texts_are_kept, fitting_machines_share_texts, edits_keep_texts}
use Rattle.machine_laws.proofs.laws.machines_have_kept_texts.Goals as goal

pub returns-clause-built : goal.returns-clause-built
returns-clause-built c = built_texts_are_kept

pub returns-clause-shared : goal.returns-clause-shared
returns-clause-shared c = fitting_machines_share_texts

pub returns-clause-edited : goal.returns-clause-edited
returns-clause-edited c = edits_keep_texts
