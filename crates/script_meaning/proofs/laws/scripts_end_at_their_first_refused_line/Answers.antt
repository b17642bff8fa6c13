use Rattle.script_meaning.proofs.FirstRefusedLemmas.{runs_end, not_refused}
use Rattle.script_meaning.proofs.laws.scripts_end_at_their_first_refused_line.Goals as goal

pub returns-clause-runs : goal.returns-clause-runs
returns-clause-runs c = runs_end

pub returns-clause-first : goal.returns-clause-first
returns-clause-first c = not_refused
