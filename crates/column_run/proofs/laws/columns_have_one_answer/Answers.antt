use Rattle.column_run.proofs.UniqueColumnAnswers.{columns_unique}
use Rattle.column_run.proofs.laws.columns_have_one_answer.Goals as goal

pub returns : goal.returns
returns c = columns_unique
