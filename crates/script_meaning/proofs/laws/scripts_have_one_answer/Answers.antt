use Rattle.script_meaning.proofs.UniqueRuns.{runs_unique, answer_unique}
use Rattle.script_meaning.proofs.laws.scripts_have_one_answer.Goals as goal

pub returns-clause-runs : goal.returns-clause-runs
returns-clause-runs c = runs_unique

pub returns-clause-answers : goal.returns-clause-answers
returns-clause-answers c = answer_unique
